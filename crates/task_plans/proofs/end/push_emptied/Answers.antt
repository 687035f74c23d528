use Rattle.std.proofs.Common.{List, refl, sym, ap, ◌∙◌, subst}
use Rattle.std.specs.List.{flat_map}
use Rattle.storage_changes.specs.declared.record.Record.{Record}
use Rattle.storage_swap.specs.Storage.{state_of}
use Rattle.storage_swap.specs.Builder.{Pushes}
use Rattle.storage_swap.proofs.BuilderLemmas.{builds-follow, builds-none, pushes-none, if-refused}
use Rattle.storage_changes.specs.Ending.{emptying_records}
use Rattle.task_plans.specs.Sights.{row_of}
use Rattle.task_plans.proofs.EmptyingRecords.{behind_queues, to_queues, not_own}
use Rattle.task_plans.proofs.EndRecords.{never}
use Rattle.task_plans.proofs.Steps.{next_room, next_refused, last_step, ok_last, err_last}
use Rattle.task_plans.proofs.end.push_emptied.Goals as goal

pub returns-in_err-push-clause-needless : goal.returns-in_err-push-clause-needless
returns-in_err-push-clause-needless c = λ h. never (c.in_err-push.ensures.needless (next_room (to_queues (row_of c.args.seen) c.requires.building (sym c.if-is_own.true ∙ c.is_own.ensures)) h))

pub returns-in_err-push-clause-made : goal.returns-in_err-push-clause-made
returns-in_err-push-clause-made c =
    if-refused _ c.from_residual.result
    (next_refused (to_queues (row_of c.args.seen) c.requires.building (sym c.if-is_own.true ∙ c.is_own.ensures)) c.push.new.storage c.in_err-push.ensures.made)

pub returns-then-is_own : goal.returns-then-is_own
returns-then-is_own c =
    let first = to_queues (row_of c.args.seen) c.requires.building (sym c.if-is_own.true ∙ c.is_own.ensures) in
    let last = last_step (behind_queues c.args.seen.subpool) first c.push.ensures.builds c.in_ok-push.ensures.ok in
    record {
      builds = builds-follow _ _ _ _ _ _ c.push.ensures.builds c.push_extents.ensures.builds;
      ok = ok_last last c.push_extents.result c.push_extents.ensures.builds c.push_extents.ensures.ok;
      made = err_last last c.push_extents.new.storage c.push_extents.result c.push_extents.ensures.made;
      needless = λ h. c.push_extents.ensures.needless (next_room last h);
    }

pub returns : goal.returns
returns c =
    let P : List Record → Type 0 = λ rs. Pushes c.args.storage.now c.args.builder.now rs c.args.storage.now c.args.builder.now in
    record {
      builds = builds-none _ _ c.requires.building;
      ok = subst P (sym (ap (flat_map (emptying_records (state_of c.args.storage.now).subpools)) (not_own (row_of c.args.seen) (sym c.if-is_own.false ∙ c.is_own.ensures)))) (pushes-none c.args.storage.now c.args.builder.now);
      made = tt;
      needless = λ h. refl;
    }
