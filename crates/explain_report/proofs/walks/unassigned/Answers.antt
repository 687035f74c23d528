use Rattle.std.proofs.Common.{ap, ◌∙◌}
use Rattle.storage_changes.specs.MapLists.{unassigned_runs}
use Rattle.storage_core.specs.Meaning.{state_in_place}
use Rattle.explain_report.specs.Tallies.{tally_of, low_runs, high_runs}
use Rattle.explain_report.proofs.Shown.{unassigned_shown}
use Rattle.explain_report.proofs.walks.unassigned.Goals as goal

pub returns-clause-low : goal.returns-clause-low
returns-clause-low c =
    c.from_sums.ensures.low 4096 (unassigned_runs (state_in_place c.args.storage.now)) c.unassigned_sums.ensures
    ∙ ap (λ rs. tally_of (low_runs 4096 rs)) (unassigned_shown c.args.storage.now c.unassigned_are_shown.ensures.shown)

pub returns-clause-high : goal.returns-clause-high
returns-clause-high c =
    c.from_sums.ensures.high 4096 (unassigned_runs (state_in_place c.args.storage.now)) c.unassigned_sums.ensures
    ∙ ap (λ rs. tally_of (high_runs 4096 rs)) (unassigned_shown c.args.storage.now c.unassigned_are_shown.ensures.shown)
