use Rattle.std.proofs.Common.{◌≤◌, List, [], ◌∷◌, length, OnOk, refl, sym, subst, OnErr}
use Rattle.storage_changes.specs.declared.record.Record.{Record}
use Rattle.storage_swap.specs.Storage.{state_of}
use Rattle.storage_changes.specs.Attaching.{shared}
use Rattle.storage_swap.specs.Builder.{Pushes}
use Rattle.storage_swap.proofs.BuilderLemmas.{builds-follow, if-refused}
use Rattle.task_plans.proofs.EndRecords.{never}
use Rattle.task_plans.proofs.ShareRecords.{share_seen, share_new}
use Rattle.task_plans.proofs.Steps.{first_is, last_step, next_room, next_refused, ok_last, err_last}
use Rattle.storage_swap.specs.Growth.{MakesElements}
use Rattle.task_plans.proofs.passing.push_share.Goals as goal

pub returns-in-Some-clause-ok : goal.returns-in-Some-clause-ok
returns-in-Some-clause-ok c =
    let P : List Record → Type 0 = λ rs. OnOk c.push.result (Pushes c.args.storage.now c.args.builder.now rs c.push.new.storage c.push.new.self) in
    subst P (sym (share_seen (state_of c.args.storage.now) c.args.task c.args.number _ c.current-current.ensures c.in-Some.owner _ c.in-Some.ensures c.shared.ensures)) c.push.ensures.ok

pub returns-in-Some-clause-needless : goal.returns-in-Some-clause-needless
returns-in-Some-clause-needless c = λ h.
    let P : List Record → Type 0 = λ rs. length rs ≤ c.args.storage.now.elements.spare in
    c.push.ensures.needless (subst P (share_seen (state_of c.args.storage.now) c.args.task c.args.number _ c.current-current.ensures c.in-Some.owner _ c.in-Some.ensures c.shared.ensures) h)

pub returns-in-Some-clause-made : goal.returns-in-Some-clause-made
returns-in-Some-clause-made c =
    let P : List Record → Type 0 = λ rs. OnErr c.push.result (MakesElements c.args.storage.now.elements c.push.new.storage.elements (length rs)) in
    subst P (sym (share_seen (state_of c.args.storage.now) c.args.task c.args.number _ c.current-current.ensures c.in-Some.owner _ c.in-Some.ensures c.shared.ensures)) c.push.ensures.made

pub returns-in_err-push-in-None-clause-needless : goal.returns-in_err-push-in-None-clause-needless
returns-in_err-push-in-None-clause-needless c = λ h.
    let later = shared c.args.number c.current-current.result c.args.task in
    let is = share_new (state_of c.args.storage.now) c.args.task c.args.number _ c.current-current.ensures c.made.result later c.in-None.ensures c.made.ensures refl in
    never (c.in_err-push-in-None.ensures.needless (next_room (first_is c.requires (c.made.result ∷ []) (later ∷ []) is) h))

pub returns-in_err-push-in-None-clause-made : goal.returns-in_err-push-in-None-clause-made
returns-in_err-push-in-None-clause-made c =
    let later = shared c.args.number c.current-current.result c.args.task in
    let is = share_new (state_of c.args.storage.now) c.args.task c.args.number _ c.current-current.ensures c.made.result later c.in-None.ensures c.made.ensures refl in
    if-refused _ c.from_residual.result (next_refused (first_is c.requires (c.made.result ∷ []) (later ∷ []) is) c.push-in-None.new.storage c.in_err-push-in-None.ensures.made)

pub returns-in_ok-push-in-None : goal.returns-in_ok-push-in-None
returns-in_ok-push-in-None c =
    let later = c.shared-in-None.result in
    let is = share_new (state_of c.args.storage.now) c.args.task c.args.number _ c.current-current.ensures c.made.result later c.in-None.ensures c.made.ensures c.shared-in-None.ensures in
    let last = last_step (λ m. later ∷ []) (first_is c.requires (c.made.result ∷ []) (later ∷ []) is) c.push-in-None.ensures.builds c.in_ok-push-in-None.ensures.ok in
    record {
      builds = builds-follow _ _ _ _ _ _ c.push-in-None.ensures.builds c.push-in-None-2.ensures.builds;
      ok = ok_last last c.push-in-None-2.result c.push-in-None-2.ensures.builds c.push-in-None-2.ensures.ok;
      made = err_last last c.push-in-None-2.new.storage c.push-in-None-2.result c.push-in-None-2.ensures.made;
      needless = λ h. c.push-in-None-2.ensures.needless (next_room last h);
    }
