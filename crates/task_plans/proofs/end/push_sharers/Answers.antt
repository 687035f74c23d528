use Rattle.storage_swap.proofs.BuilderLemmas.{builds-follow, if-refused}
use Rattle.task_plans.proofs.EndRecords.{never}
use Rattle.task_plans.proofs.Steps.{next_room, next_refused}
use Rattle.task_plans.proofs.Walks.{sharers_all, sharers_next, sharers_more, sharers_less}
use Rattle.task_plans.proofs.end.push_sharers.Goals as goal

pub loop-task-smaller : goal.loop-task-smaller
loop-task-smaller c = sharers_less c.loop-task.invariant c.in-Some.next c.in-Some.ensures.next c.push.ensures.builds

pub loop-task-preserved : goal.loop-task-preserved
loop-task-preserved c = sharers_more c.loop-task.invariant c.in-Some.next c.in-Some.ensures.next c.unseen.result c.unseen.ensures c.push.ensures.builds c.in_ok-push.ensures.ok

pub returns-in_err-push-clause-builds : goal.returns-in_err-push-clause-builds
returns-in_err-push-clause-builds c = builds-follow _ _ _ _ _ _ c.loop-task.invariant.leads.builds c.push.ensures.builds

pub returns-in_err-push-clause-needless : goal.returns-in_err-push-clause-needless
returns-in_err-push-clause-needless c = λ room.
    never (c.in_err-push.ensures.needless (next_room (sharers_next c.loop-task.invariant c.in-Some.next c.in-Some.ensures.next c.unseen.result c.unseen.ensures) room))

pub returns-clause-ok : goal.returns-clause-ok
returns-clause-ok c = sharers_all c.loop-task.invariant c.in_default.ensures.none

pub returns-in_err-push-clause-made : goal.returns-in_err-push-clause-made
returns-in_err-push-clause-made c =
    if-refused _ c.from_residual.result
    (next_refused (sharers_next c.loop-task.invariant c.in-Some.next c.in-Some.ensures.next c.unseen.result c.unseen.ensures) c.push.new.storage c.in_err-push.ensures.made)
