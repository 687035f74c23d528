-- What was exchanged can be exchanged back.
use Rattle.subpool_storage.specs.SubpoolStorage.{subpools_of}
use Rattle.subpool_storage.proofs.CellLemmas.{exchanged_back}
use Rattle.tests_lower.proofs.subpool_steps.exchange.Goals as goal

pub returns-clause-names : goal.returns-clause-names
returns-clause-names g c =
    exchanged_back (subpools_of c.args.elements.now c.args.one.now) (subpools_of c.args.elements.now c.args.other.now)
    (subpools_of c.exchange_storage.new.elements c.exchange_storage.new.self) (subpools_of c.exchange_storage.new.elements c.exchange_storage.new.others)
    c.args.subpool c.exchange_storage.ensures.subpools c.exchange_storage.ensures.other_subpools c.requires.names
