use Rattle.std.proofs.Common.{refl}
use Rattle.subpool_storage.proofs.SetLemmas.{remove_becomes}
use Rattle.subpool_storage.proofs.storage.SubpoolStorage.remove.Goals as goal

pub returns-clause-becomes : goal.returns-clause-becomes
returns-clause-becomes c = remove_becomes c.args.elements.now c.remove.new.elements c.args.self.now (record { set = c.remove.new.self; cells = c.args.self.now.cells }) c.args.subpool refl c.requires.stands c.remove.ensures.set c.remove.ensures.queues c.remove.ensures.owned c.remove.ensures.pools c.remove.ensures.sight c.requires.no_pages c.requires.none_free
