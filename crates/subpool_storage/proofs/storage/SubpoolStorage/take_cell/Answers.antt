use Rattle.std.proofs.Common.{refl}
use Rattle.cell_pool.specs.Pools.{without_first}
use Rattle.subpool_storage.specs.Subpools.{with_changed}
use Rattle.subpool_storage.specs.SubpoolStorage.{subpools_of}
use Rattle.subpool_storage.proofs.LiftLemmas.{cells_become}
use Rattle.subpool_storage.proofs.storage.SubpoolStorage.take_cell.Goals as goal

pub returns-clause-becomes : goal.returns-clause-becomes
unfolding subpools_of
returns-clause-becomes c = cells_become c.args.elements.now c.take_cell.new.elements c.args.self.now c.take_cell.new.self (with_changed (subpools_of c.args.elements.now c.args.self.now) c.args.id (without_first)) c.requires.stands c.take_cell.ensures.pools c.take_cell.ensures.owned c.take_cell.ensures.ids refl
