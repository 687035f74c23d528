use Rattle.storage_swap.proofs.BuilderLemmas.{builds-follow, if-refused}
use Rattle.task_plans.proofs.EndedWalks.{task_left}
use Rattle.task_plans.proofs.EndRecords.{never}
use Rattle.task_plans.proofs.ParentLemmas.{still}
use Rattle.task_plans.proofs.Steps.{next_room, next_refused, next_more}
use Rattle.task_plans.proofs.ended.push_ended_level.Goals as goal

pub returns-in_err-push_ended_at-clause-builds : goal.returns-in_err-push_ended_at-clause-builds
returns-in_err-push_ended_at-clause-builds c = builds-follow _ _ _ _ _ _ c.loop-task.invariant.leads.builds c.push_ended_at.ensures.builds

pub returns-in_err-push_ended_at-clause-needless : goal.returns-in_err-push_ended_at-clause-needless
returns-in_err-push_ended_at-clause-needless c = λ room. never (c.in_err-push_ended_at.ensures.needless (next_room (task_left c.loop-task.invariant c.loop-task-test.true) room))

pub returns-in_err-push_ended_at-clause-made : goal.returns-in_err-push_ended_at-clause-made
returns-in_err-push_ended_at-clause-made c =
    if-refused _ c.from_residual.result (next_refused (task_left c.loop-task.invariant c.loop-task-test.true) c.push_ended_at.new.storage c.in_err-push_ended_at.ensures.made)

pub loop-task-preserved : goal.loop-task-preserved
loop-task-preserved c = record { leads = next_more (task_left c.loop-task.invariant c.loop-task-test.true) c.push_ended_at.ensures.builds c.in_ok-push_ended_at.ensures.ok }

pub push_ended_at-requires-clause-tree : goal.push_ended_at-requires-clause-tree
push_ended_at-requires-clause-tree c = still c.args.tree.now.parents.of _ _ c.loop-task.invariant.leads.builds.keeps.shows c.requires.tree
