use Rattle.std.proofs.Common.{arith}
use Rattle.storage_swap.proofs.BuilderLemmas.{builds-follow, if-refused}
use Rattle.task_plans.proofs.EndRecords.{never}
use Rattle.task_plans.proofs.Steps.{next_room, next_refused}
use Rattle.task_plans.proofs.Walks.{extents_done, extents_less, extents_next, extents_more}
use Rattle.task_plans.proofs.end.push_extents.Goals as goal

pub returns-in_err-push-clause-builds : goal.returns-in_err-push-clause-builds
returns-in_err-push-clause-builds c = builds-follow _ _ _ _ _ _ c.loop-run.invariant.leads.builds c.push.ensures.builds

pub returns-in_err-push-clause-needless : goal.returns-in_err-push-clause-needless
returns-in_err-push-clause-needless c = λ room. never (c.in_err-push.ensures.needless (next_room (extents_next c.loop-run.invariant c.in-Some.next c.in-Some.ensures.run c.in-Some.ensures.next.1) room))

pub loop-run-smaller : goal.loop-run-smaller
loop-run-smaller c = omega (arith, extents_less c.loop-run.invariant c.in-Some.next c.in-Some.ensures.run c.in-Some.ensures.next.1, c.in-Some.ensures.next.1)

pub loop-run-preserved : goal.loop-run-preserved
loop-run-preserved c =
    extents_more c.loop-run.invariant c.in-Some.next c.in-Some.ensures.run c.in-Some.ensures.next.1 c.in-Some.ensures.next.0 c.push.ensures.builds c.in_ok-push.ensures.ok

pub returns-clause-ok : goal.returns-clause-ok
returns-clause-ok c = extents_done c.loop-run.invariant c.in_default.ensures.run

pub returns-in_err-push-clause-made : goal.returns-in_err-push-clause-made
returns-in_err-push-clause-made c =
    if-refused _ c.from_residual.result
    (next_refused (extents_next c.loop-run.invariant c.in-Some.next c.in-Some.ensures.run c.in-Some.ensures.next.1) c.push.new.storage c.in_err-push.ensures.made)
