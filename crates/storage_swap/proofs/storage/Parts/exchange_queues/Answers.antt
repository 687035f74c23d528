use Rattle.storage_swap.proofs.CellLemmas.{queues-exchanged}
use Rattle.storage_swap.proofs.storage.Parts.exchange_queues.Goals as goal

pub returns-clause-exchanges : goal.returns-clause-exchanges
returns-clause-exchanges c = λ given. queues-exchanged c.args.self.now c.args.parked.now c.requires.stands c.exchange_storage.new.elements c.exchange_storage.new.self c.exchange_storage.new.others
    c.exchange_storage.ensures.stands c.exchange_storage.ensures.others c.exchange_storage.ensures.moves c.exchange_storage.ensures.apart c.exchange_storage.ensures.spares c.exchange_storage.ensures.as_many
    c.args.r c.exchange_storage.ensures.subpools c.exchange_storage.ensures.other_subpools given
