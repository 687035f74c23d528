use Rattle.std.proofs.Common.{sym, ◌∙◌}
use Rattle.subpool_storage.specs.Extents.{extents}
use Rattle.storage_core.specs.Meaning.{state_in_place}
use Rattle.storage_core.specs.Walks.{subpool_before}
use Rattle.storage_map.proofs.Sides.{low_pages, high_pages}
use Rattle.storage_map.proofs.sums.pages_of.Goals as goal

pub extent_sums-sums-requires : goal.extent_sums-sums-requires
extent_sums-sums-requires c = (subpool_before c.args.storage.now c.args.place, 0, c.first_extent_at.ensures)

pub returns-clause-low : goal.returns-clause-low
returns-clause-low c =
    let p = subpool_before c.args.storage.now c.args.place in
    let sides = c.extent_sums-sums.ensures p 0 c.first_extent_at.ensures in
    sides.low.total ∙ low_pages (extents (state_in_place c.args.storage.now).subpools p)

pub returns-clause-high : goal.returns-clause-high
returns-clause-high c =
    let p = subpool_before c.args.storage.now c.args.place in
    let sides = c.extent_sums-sums.ensures p 0 c.first_extent_at.ensures in
    sides.high.total ∙ high_pages (extents (state_in_place c.args.storage.now).subpools p)
