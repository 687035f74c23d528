use Rattle.std.proofs.Common.{◌≤◌, ℕ, List, get_or, length, sym, subst, arith}
use Rattle.storage_changes.specs.declared.record.Record.{Record}
use Rattle.storage_changes.specs.State.{StorageState}
use Rattle.storage_swap.specs.Storage.{state_of}
use Rattle.storage_swap.specs.Builder.{Pushes}
use Rattle.storage_swap.proofs.BuilderLemmas.{builds-follow, leads-none, if-refused}
use Rattle.storage_changes.specs.Attaching.{share_records}
use Rattle.task_plans.proofs.EndRecords.{never}
use Rattle.task_plans.proofs.ShareRecords.{each_done, each_next}
use Rattle.task_plans.proofs.Steps.{next_room, next_refused, next_more}
use Rattle.storage_swap.specs.Growth.{MakesElements}
use Rattle.task_plans.proofs.passing.push_shares.Goals as goal

pub loop-k-init : goal.loop-k-init
loop-k-init c = leads-none _ _ _ c.requires.building

pub returns-in_err-push_share-clause-builds : goal.returns-in_err-push_share-clause-builds
returns-in_err-push_share-clause-builds c = builds-follow _ _ _ _ _ _ c.loop-k.invariant.builds c.push_share.ensures.builds

pub returns-in_err-push_share-clause-needless : goal.returns-in_err-push_share-clause-needless
returns-in_err-push_share-clause-needless c = λ room.
    let each : StorageState → ℕ → List Record = λ m. share_records m c.args.task in
    let P : List ℕ → Type 0 = λ ys. length (each (state_of c.loop-k.storage) (get_or ys c.loop-k.k 0)) ≤ c.loop-k.storage.elements.spare in
    never (c.in_err-push_share.ensures.needless (subst P (sym c.deref.ensures.0)
    (next_room (each_next each c.args.shared.now.items c.loop-k.k c.loop-k.invariant (omega (arith, c.loop-k-test.true, c.len-k-end.ensures.value))) room)))

pub loop-k-preserved : goal.loop-k-preserved
loop-k-preserved c =
    let each : StorageState → ℕ → List Record = λ m. share_records m c.args.task in
    let P : List ℕ → Type 0 = λ ys. Pushes c.loop-k.storage c.loop-k.builder (each (state_of c.loop-k.storage) (get_or ys c.loop-k.k 0)) c.push_share.new.storage c.push_share.new.builder in
    next_more (each_next each c.args.shared.now.items c.loop-k.k c.loop-k.invariant (omega (arith, c.loop-k-test.true, c.len-k-end.ensures.value)))
    c.push_share.ensures.builds (subst P c.deref.ensures.0 c.in_ok-push_share.ensures.ok)

pub returns-clause-ok : goal.returns-clause-ok
returns-clause-ok c = each_done (λ m. share_records m c.args.task) c.args.shared.now.items c.loop-k.k c.loop-k.invariant (omega (arith, c.loop-k-test.false, c.len-k-end.ensures.value))

pub returns-in_err-push_share-clause-made : goal.returns-in_err-push_share-clause-made
returns-in_err-push_share-clause-made c =
    let each : StorageState → ℕ → List Record = λ m. share_records m c.args.task in
    let P : List ℕ → Type 0 = λ ys. MakesElements c.loop-k.storage.elements c.push_share.new.storage.elements (length (each (state_of c.loop-k.storage) (get_or ys c.loop-k.k 0))) in
    if-refused _ c.from_residual.result
    (next_refused (each_next each c.args.shared.now.items c.loop-k.k c.loop-k.invariant (omega (arith, c.loop-k-test.true, c.len-k-end.ensures.value))) c.push_share.new.storage (subst P c.deref.ensures.0 c.in_err-push_share.ensures.made))
