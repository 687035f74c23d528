use Rattle.std.proofs.Common.{[], ◌∷◌, refl}
use Rattle.storage_swap.proofs.BuilderLemmas.{builds-follow, if-refused}
use Rattle.storage_swap.specs.Storage.{state_of}
use Rattle.task_plans.proofs.AttachRecords.{to_return}
use Rattle.task_plans.proofs.EndRecords.{never}
use Rattle.task_plans.proofs.Steps.{last_step, next_room, next_refused, ok_last, err_last}
use Rattle.task_plans.proofs.attach.AttachPlan.push_registers.Goals as goal

pub returns-in_err-push_return-clause-needless : goal.returns-in_err-push_return-clause-needless
returns-in_err-push_return-clause-needless c = λ h.
    let first = to_return (state_of c.args.storage.now) c.args.self.task _ c.current-current.ensures c.requires c.args.self.task _ refl refl in
    never (c.in_err-push_return.ensures.needless (next_room first h))

pub returns-in_err-push_return-clause-made : goal.returns-in_err-push_return-clause-made
returns-in_err-push_return-clause-made c =
    let first = to_return (state_of c.args.storage.now) c.args.self.task _ c.current-current.ensures c.requires c.args.self.task _ refl refl in
    if-refused _ c.from_residual.result (next_refused first c.push_return.new.storage c.in_err-push_return.ensures.made)

pub returns : goal.returns
returns c =
    let first = to_return (state_of c.args.storage.now) c.args.self.task _ c.current-current.ensures c.requires _ c.set_register.result c.from.ensures c.set_register.ensures in
    let last = last_step (λ m. c.set_register.result ∷ []) first c.push_return.ensures.builds c.in_ok-push_return.ensures.ok in
    record {
      builds = builds-follow _ _ _ _ _ _ c.push_return.ensures.builds c.push.ensures.builds;
      ok = ok_last last c.push.result c.push.ensures.builds c.push.ensures.ok;
      made = err_last last c.push.new.storage c.push.result c.push.ensures.made;
      needless = λ h. c.push.ensures.needless (next_room last h);
    }
