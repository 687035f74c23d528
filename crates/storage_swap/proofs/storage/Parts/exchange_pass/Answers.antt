use Rattle.storage_swap.proofs.SubpoolLemmas.{passed}
use Rattle.storage_swap.proofs.storage.Parts.exchange_pass.Goals as goal

pub returns-clause-exchanges : goal.returns-clause-exchanges
returns-clause-exchanges c = passed c.args.self.now c.pass.new.elements c.pass.new.self c.args.r c.pass.ensures.becomes c.pass.ensures.spares
