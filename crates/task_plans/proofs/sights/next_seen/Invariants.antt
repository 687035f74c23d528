use Rattle.std.proofs.Common.{◌≡◌}
use Rattle.storage_swap.specs.Storage.{state_of}
use Rattle.task_plans.specs.Sights.{seen_left}
use Rattle.task_plans.proofs.SightLemmas.{asked_for}
use Rattle.task_plans.proofs.sights.next_seen.Given as goal

abbrev pub invariant-loop-number : goal.invariant-loop-number
invariant-loop-number l =
    let m = state_of l.storage in
    let top = l.ending.tree.top in
    seen_left m top l.fn.place ≡ seen_left m top (asked_for l.number l.asked)
