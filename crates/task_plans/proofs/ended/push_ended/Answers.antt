use Rattle.std.proofs.Common.{◌≡◌, ◌-◌, List, ap, ◌∙◌, subst, arith}
use Rattle.std.specs.List.{flat_map}
use Rattle.storage_changes.specs.declared.record.Record.{Record}
use Rattle.storage_swap.specs.Storage.{state_of}
use Rattle.storage_swap.proofs.BuilderLemmas.{Leads, builds-follow, leads-none, if-refused}
use Rattle.storage_changes.specs.Ending.{ended_from, ended_below, ended_records}
use Rattle.task_plans.proofs.EndedWalks.{level_left, top_left}
use Rattle.task_plans.proofs.EndRecords.{never}
use Rattle.task_plans.proofs.Levels.{ended_levels}
use Rattle.task_plans.proofs.Steps.{next_room, next_refused, next_more, ok_last, err_last}
use Rattle.task_plans.proofs.ended.push_ended.Goals as goal

pub loop-done-init : goal.loop-done-init
loop-done-init c =
    let p = c.args.storage.now in
    let m = state_of p in
    let top = c.args.tree.now.top in
    let levels = c.deepest-levels.result in
    let all = flat_map (ended_records m) (ended_below m.tasks.parents top) in
    let P : List Record → Type 0 = λ rs. Leads p c.args.builder.now all p c.args.builder.now rs in
    let none : levels ≡ levels - 0 = omega arith in
    let is = ended_levels m.tasks.parents top levels c.deepest-levels.ensures.range c.deepest-levels.ensures.rest ∙ ap (ended_from m.tasks.parents top) none in
    record { leads = subst P (ap (flat_map (ended_records m)) is) (leads-none p c.args.builder.now all c.requires.building) }

pub returns-in_err-push_ended_level-clause-builds : goal.returns-in_err-push_ended_level-clause-builds
returns-in_err-push_ended_level-clause-builds c = builds-follow _ _ _ _ _ _ c.loop-done.invariant.leads.builds c.push_ended_level.ensures.builds

pub returns-in_err-push_ended_level-clause-needless : goal.returns-in_err-push_ended_level-clause-needless
returns-in_err-push_ended_level-clause-needless c = λ room. never (c.in_err-push_ended_level.ensures.needless (next_room (level_left c.loop-done.invariant c.loop-done-test.true) room))

pub returns-in_err-push_ended_level-clause-made : goal.returns-in_err-push_ended_level-clause-made
returns-in_err-push_ended_level-clause-made c =
    if-refused _ c.from_residual.result (next_refused (level_left c.loop-done.invariant c.loop-done-test.true) c.push_ended_level.new.storage c.in_err-push_ended_level.ensures.made)

pub loop-done-preserved : goal.loop-done-preserved
loop-done-preserved c = record { leads = next_more (level_left c.loop-done.invariant c.loop-done-test.true) c.push_ended_level.ensures.builds c.in_ok-push_ended_level.ensures.ok }

pub returns : goal.returns
returns c =
    let end = c.push_ended_level-2 in
    let last = top_left c.loop-done.invariant (omega (arith, c.loop-done-test.false)) in
    record {
      builds = builds-follow _ _ _ _ _ _ c.loop-done.invariant.leads.builds end.ensures.builds;
      ok = ok_last last end.result end.ensures.builds end.ensures.ok;
      made = err_last last end.new.storage end.result end.ensures.made;
      needless = λ room. end.ensures.needless (next_room last room);
    }
