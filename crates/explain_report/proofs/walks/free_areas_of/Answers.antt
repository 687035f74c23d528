use Rattle.std.proofs.Common.{ap, ◌∙◌}
use Rattle.subpool_storage.specs.Extents.{free_areas}
use Rattle.storage_core.specs.Meaning.{state_in_place}
use Rattle.explain_report.specs.Tallies.{tally_of, low_runs, high_runs}
use Rattle.explain_report.proofs.Shown.{areas_shown}
use Rattle.explain_report.proofs.walks.free_areas_of.Goals as goal

pub free_area_sums-requires : goal.free_area_sums-requires
free_area_sums-requires c = (c.args.subpool, 0, c.first_free_area.ensures)

pub returns-clause-low : goal.returns-clause-low
returns-clause-low c =
    c.from_sums.ensures.low 2097152 (free_areas (state_in_place c.args.storage.now).subpools c.args.subpool) (c.free_area_sums.ensures c.args.subpool 0 c.first_free_area.ensures)
    ∙ ap (λ rs. tally_of (low_runs 2097152 rs)) (areas_shown c.args.storage.now c.runs_are_shown.ensures.areas c.args.subpool)

pub returns-clause-high : goal.returns-clause-high
returns-clause-high c =
    c.from_sums.ensures.high 2097152 (free_areas (state_in_place c.args.storage.now).subpools c.args.subpool) (c.free_area_sums.ensures c.args.subpool 0 c.first_free_area.ensures)
    ∙ ap (λ rs. tally_of (high_runs 2097152 rs)) (areas_shown c.args.storage.now c.runs_are_shown.ensures.areas c.args.subpool)
