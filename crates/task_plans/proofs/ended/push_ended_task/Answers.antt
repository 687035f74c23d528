use Rattle.std.proofs.Common.{ap, ◌∙◌, arith}
use Rattle.std.specs.Prelude.{unwrap_or}
use Rattle.storage_swap.proofs.BuilderLemmas.{builds-follow, leads-none, if-refused}
use Rattle.task_plans.proofs.EndedWalks.{quarter_left, own_left}
use Rattle.task_plans.proofs.EndRecords.{never}
use Rattle.task_plans.proofs.Steps.{next_room, next_refused, next_more, ok_last, err_last}
use Rattle.task_plans.proofs.ended.push_ended_task.Goals as goal

pub loop-quarter-init : goal.loop-quarter-init
loop-quarter-init c = record { leads = leads-none _ _ _ c.requires }

pub loop-quarter-preserved : goal.loop-quarter-preserved
loop-quarter-preserved c = record { leads = next_more (quarter_left c.loop-quarter.invariant c.loop-quarter-test.true) c.push_quarter.ensures.builds c.in_ok-push_quarter.ensures.ok }

pub returns-in_err-push_quarter-clause-builds : goal.returns-in_err-push_quarter-clause-builds
returns-in_err-push_quarter-clause-builds c = builds-follow _ _ _ _ _ _ c.loop-quarter.invariant.leads.builds c.push_quarter.ensures.builds

pub returns-in_err-push_quarter-clause-needless : goal.returns-in_err-push_quarter-clause-needless
returns-in_err-push_quarter-clause-needless c = λ room. never (c.in_err-push_quarter.ensures.needless (next_room (quarter_left c.loop-quarter.invariant c.loop-quarter-test.true) room))

pub returns-in_err-push_quarter-clause-made : goal.returns-in_err-push_quarter-clause-made
returns-in_err-push_quarter-clause-made c =
    if-refused _ c.from_residual.result (next_refused (quarter_left c.loop-quarter.invariant c.loop-quarter-test.true) c.push_quarter.new.storage c.in_err-push_quarter.ensures.made)

pub returns : goal.returns
returns c =
    let its = c.unwrap_or-parent.ensures ∙ ap (λ o. unwrap_or o 0) c.parent_of.ensures in
    let last = own_left c.loop-quarter.invariant (omega (arith, c.loop-quarter-test.false)) c.unwrap_or-parent.result its in
    record {
      builds = builds-follow _ _ _ _ _ _ c.loop-quarter.invariant.leads.builds c.push.ensures.builds;
      ok = ok_last last c.push.result c.push.ensures.builds c.push.ensures.ok;
      made = err_last last c.push.new.storage c.push.result c.push.ensures.made;
      needless = λ room. c.push.ensures.needless (next_room last room);
    }
