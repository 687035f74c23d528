use Rattle.storage_map.specs.Cells.{cell_pool, cells_left}
use Rattle.explain_report.proofs.ExtentSums.{counted}
use Rattle.explain_report.proofs.pool_figures.free_in.Goals as goal

pub returns : goal.returns
returns c =
    let s = c.args.storage.now in
    let l = c.loop-after in
    counted (cell_pool s c.args.id) l.count (cells_left s l.place) c.in_default.ensures.none l.invariant.left l.invariant.small
