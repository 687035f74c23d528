use Rattle.std.proofs.Common.{◌≡◌}
use Rattle.storage_swap.specs.Storage.{state_of}
use Rattle.task_plans.specs.Sights.{rows_from}
use Rattle.task_plans.proofs.SightLemmas.{asked_for}
use Rattle.task_plans.proofs.sights.seen_at.Given as goal

abbrev pub invariant-loop-asked : goal.invariant-loop-asked
invariant-loop-asked l =
    let m = state_of l.storage in
    let top = l.ending.tree.top in
    rows_from m top l.fn.place ≡ rows_from m top (asked_for l.fn.place.number l.asked)
