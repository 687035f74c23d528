use Rattle.storage_map.specs.Cells.{cell_pool, extents_left}
use Rattle.explain_report.proofs.ExtentSums.{all_of_it}
use Rattle.explain_report.proofs.pool_figures.extents_of.Goals as goal

pub returns : goal.returns
returns c =
    let s = c.args.storage.now in
    let small = c.loop-extent.invariant.small in
    all_of_it c.args.size (cell_pool s c.args.id) c.loop-extent.figures (extents_left s c.loop-extent.place) c.in_default.ensures.none c.loop-extent.invariant.left small.0 small.1 small.2
