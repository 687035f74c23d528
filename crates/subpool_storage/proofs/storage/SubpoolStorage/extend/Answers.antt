use Rattle.std.proofs.Common.{refl}
use Rattle.cell_pool.specs.Pools.{extended}
use Rattle.subpool_storage.specs.Subpools.{with_changed}
use Rattle.subpool_storage.specs.SubpoolStorage.{subpools_of}
use Rattle.subpool_storage.proofs.LiftLemmas.{cells_become}
use Rattle.subpool_storage.proofs.storage.SubpoolStorage.extend.Goals as goal

pub returns-clause-becomes : goal.returns-clause-becomes
unfolding subpools_of
returns-clause-becomes c = cells_become c.args.elements.now c.extend.new.elements c.args.self.now c.extend.new.self (with_changed (subpools_of c.args.elements.now c.args.self.now) c.args.id (extended c.args.start c.args.count)) c.requires.stands c.extend.ensures.pools c.extend.ensures.owned c.extend.ensures.ids refl
