use Rattle.std.proofs.Common.{refl}
use Rattle.subpool_storage.proofs.SetLemmas.{create_becomes}
use Rattle.subpool_storage.specs.SubpoolStorage.{subpools_of}
use Rattle.subpool_storage.proofs.storage.SubpoolStorage.create.Goals as goal

pub returns-clause-becomes : goal.returns-clause-becomes
unfolding subpools_of
returns-clause-becomes c = create_becomes c.args.elements.now c.create.new.elements c.args.self.now (record { set = c.create.new.self; cells = c.args.self.now.cells }) c.args.subpool c.create.result refl c.requires.stands c.create.ensures.set c.create.ensures.queues c.create.ensures.owned c.create.ensures.pools c.create.ensures.sight c.requires.unseen c.new_queues_are_empty.ensures
