use Rattle.storage_swap.proofs.AppendLemmas.{appended-last}
use Rattle.storage_swap.proofs.chains.append.Goals as goal

pub returns-clause-last : goal.returns-clause-last
returns-clause-last c = appended-last c.args.elements.now c.insert.new.elements c.args.chain.now c.insert.new.self (record { id = c.insert.result; words = c.words.result }) c.requires.chain c.insert.ensures.links
