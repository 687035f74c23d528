use Rattle.std.proofs.Common.{◌≤◌, List, length, OnOk, sym, subst, OnErr}
use Rattle.storage_changes.specs.declared.record.Record.{Record}
use Rattle.storage_swap.specs.Storage.{state_of}
use Rattle.storage_swap.specs.Builder.{Pushes}
use Rattle.task_plans.proofs.GiftRecords.{gift_seen, gift_new}
use Rattle.storage_swap.specs.Growth.{MakesElements}
use Rattle.task_plans.proofs.passing.push_gift.Goals as goal

pub returns-in-Some-clause-ok : goal.returns-in-Some-clause-ok
returns-in-Some-clause-ok c =
    let P : List Record → Type 0 = λ rs. OnOk c.push.result (Pushes c.args.storage.now c.args.builder.now rs c.push.new.storage c.push.new.self) in
    subst P (sym (gift_seen (state_of c.args.storage.now) c.args.task c.args.number _ c.current-current.ensures c.in-Some.owner c.in-Some.ensures)) c.push.ensures.ok

pub returns-in-Some-clause-needless : goal.returns-in-Some-clause-needless
returns-in-Some-clause-needless c = λ h.
    let P : List Record → Type 0 = λ rs. length rs ≤ c.args.storage.now.elements.spare in
    c.push.ensures.needless (subst P (gift_seen (state_of c.args.storage.now) c.args.task c.args.number _ c.current-current.ensures c.in-Some.owner c.in-Some.ensures) h)

pub returns-in-None-clause-ok : goal.returns-in-None-clause-ok
returns-in-None-clause-ok c =
    let P : List Record → Type 0 = λ rs. OnOk c.push-in-None.result (Pushes c.args.storage.now c.args.builder.now rs c.push-in-None.new.storage c.push-in-None.new.self) in
    subst P (sym (gift_new (state_of c.args.storage.now) c.args.task c.args.number _ c.current-current.ensures _ c.in-None.ensures c.made.ensures)) c.push-in-None.ensures.ok

pub returns-in-None-clause-needless : goal.returns-in-None-clause-needless
returns-in-None-clause-needless c = λ h.
    let P : List Record → Type 0 = λ rs. length rs ≤ c.args.storage.now.elements.spare in
    c.push-in-None.ensures.needless (subst P (gift_new (state_of c.args.storage.now) c.args.task c.args.number _ c.current-current.ensures _ c.in-None.ensures c.made.ensures) h)

pub returns-in-Some-clause-made : goal.returns-in-Some-clause-made
returns-in-Some-clause-made c =
    let P : List Record → Type 0 = λ rs. OnErr c.push.result (MakesElements c.args.storage.now.elements c.push.new.storage.elements (length rs)) in
    subst P (sym (gift_seen (state_of c.args.storage.now) c.args.task c.args.number _ c.current-current.ensures c.in-Some.owner c.in-Some.ensures)) c.push.ensures.made

pub returns-in-None-clause-made : goal.returns-in-None-clause-made
returns-in-None-clause-made c =
    let P : List Record → Type 0 = λ rs. OnErr c.push-in-None.result (MakesElements c.args.storage.now.elements c.push-in-None.new.storage.elements (length rs)) in
    subst P (sym (gift_new (state_of c.args.storage.now) c.args.task c.args.number _ c.current-current.ensures _ c.in-None.ensures c.made.ensures)) c.push-in-None.ensures.made
