use Rattle.std.proofs.Common.{ap, ◌∙◌}
use Rattle.subpool_storage.specs.Extents.{extents}
use Rattle.storage_core.specs.Meaning.{state_in_place}
use Rattle.explain_report.specs.Tallies.{tally_of, low_runs, high_runs}
use Rattle.explain_report.proofs.Shown.{extents_shown}
use Rattle.explain_report.proofs.walks.extents_of.Goals as goal

pub extent_sums-requires : goal.extent_sums-requires
extent_sums-requires c = (c.args.subpool, 0, c.first_extent.ensures)

pub returns-clause-low : goal.returns-clause-low
returns-clause-low c =
    c.from_sums.ensures.low 4096 (extents (state_in_place c.args.storage.now).subpools c.args.subpool) (c.extent_sums.ensures c.args.subpool 0 c.first_extent.ensures)
    ∙ ap (λ rs. tally_of (low_runs 4096 rs)) (extents_shown c.args.storage.now c.runs_are_shown.ensures.extents c.args.subpool)

pub returns-clause-high : goal.returns-clause-high
returns-clause-high c =
    c.from_sums.ensures.high 4096 (extents (state_in_place c.args.storage.now).subpools c.args.subpool) (c.extent_sums.ensures c.args.subpool 0 c.first_extent.ensures)
    ∙ ap (λ rs. tally_of (high_runs 4096 rs)) (extents_shown c.args.storage.now c.runs_are_shown.ensures.extents c.args.subpool)
