use Rattle.storage_map.proofs.CellsInOrder.{ends_in_regions}
use Rattle.storage_map.proofs.walks.first_cell_extent.Goals as goal

pub returns-clause-end : goal.returns-clause-end
returns-clause-end c =
    let s = c.args.storage.now in
    ends_in_regions c.cell_extents_end.ensures s (c.cell_pools_are_named.ensures s.parts.elements s.parts.subpools s.held.stands.subpools) c.args.id
