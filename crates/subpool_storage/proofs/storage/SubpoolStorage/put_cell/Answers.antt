use Rattle.std.proofs.Common.{refl}
use Rattle.cell_pool.specs.Pools.{with_first}
use Rattle.subpool_storage.specs.Subpools.{with_changed}
use Rattle.subpool_storage.specs.SubpoolStorage.{subpools_of}
use Rattle.subpool_storage.proofs.LiftLemmas.{cells_become}
use Rattle.subpool_storage.proofs.storage.SubpoolStorage.put_cell.Goals as goal

pub returns-clause-becomes : goal.returns-clause-becomes
unfolding subpools_of
returns-clause-becomes c = cells_become c.args.elements.now c.put_cell.new.elements c.args.self.now c.put_cell.new.self (with_changed (subpools_of c.args.elements.now c.args.self.now) c.args.id (with_first c.args.cell)) c.requires.stands c.put_cell.ensures.pools c.put_cell.ensures.owned c.put_cell.ensures.ids refl
