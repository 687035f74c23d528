use Rattle.std.proofs.Common.{false, refl}
use Rattle.subpool_storage.proofs.SharingLemmas.{sharer_becomes}
use Rattle.subpool_storage.proofs.storage.SubpoolStorage.unshare.Goals as goal

pub returns-clause-becomes : goal.returns-clause-becomes
returns-clause-becomes c = sharer_becomes c.args.elements.now c.unshare.new.elements c.args.self.now (record { set = c.unshare.new.self; cells = c.args.self.now.cells }) c.args.subpool c.args.task false refl c.requires.stands c.unshare.ensures.set c.unshare.ensures.queues c.unshare.ensures.owned c.unshare.ensures.pools c.unshare.ensures.sight
