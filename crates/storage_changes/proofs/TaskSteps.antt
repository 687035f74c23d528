-- A task that is attached or removed, and back; and the turn that passes to a task, and back.
use Rattle.std.proofs.Common.{◌≡◌, ◌≢◌, ℕ, ◌+◌, ◌≤◌, Bool, true, false, not, ◌==◌, if◌then◌else◌, Option, Some, None, IsSome, refl, sym, ap, ◌∙◌, arith, subst}
use Rattle.std.proofs.lemmas.Bool.{eqb-true, eq-eqb, ne_eqb}
use Rattle.storage_changes.specs.declared.record.TaskRecord.{TaskRecord}
use Rattle.storage_changes.specs.declared.record.TurnRecord.{TurnRecord}
use Rattle.storage_changes.specs.Walk.{Walk, flip}
use Rattle.storage_changes.specs.Steps.{task_step, turn_step}
use Rattle.storage_changes.specs.Fits.{TaskFits, TurnFits}
use Rattle.storage_changes.proofs.Cases.{cond-back, cond-in, cond-out, state-same, walk-same}

module _ (w : Walk) (k parent : ℕ) where
  abbrev task : Bool → TaskRecord
  task b = record { task = k; parent = parent; present = b }

  abbrev below : ℕ → Option ℕ
  below = w.state.tasks.parents

  abbrev behind : Bool → Walk
  behind b = flip (task_step w (task b))

  abbrev back : Bool → Walk
  back b = task_step (behind b) (task (not b))

  task-other : (b : Bool) → TaskFits w (task b) → (if not b then Some parent else None) ≡ below k
  task-other true h = sym h.other
  task-other false h = sym h.other

  parents-back : (b : Bool) → TaskFits w (task b) → (t : ℕ) → (back b).state.tasks.parents t ≡ below t
  parents-back b h t = cond-back (t == k) (if not b then Some parent else None) (if b then Some parent else None) (below t)
      (λ c. task-other b h ∙ ap below (sym (eqb-true t k c)))

  spare-back : (b : Bool) → TaskFits w (task b) → (back b).spare ≡ w.spare
  spare-back true h = omega (arith, h.room)
  spare-back false h = omega arith

  room-back : (b : Bool) → TaskFits w (task b) → 4 ≤ (behind b).spare + (if not b then 0 else 4)
  room-back true h = omega (arith, h.room)
  room-back false h = omega arith

  task-there : (b : Bool) → (behind b).state.tasks.parents k ≡ (if b then Some parent else None)
  task-there b = cond-in (k == k) (if b then Some parent else None) (below k) (eq-eqb k k refl)

  others-stay : (b : Bool) (t : ℕ) → t ≢ k → (behind b).state.tasks.parents t ≡ below t
  others-stay b t other = cond-out (t == k) (if b then Some parent else None) (below t) (ne_eqb t k other)

  not-turned : (b : Bool) → (if b then Some parent else None) ≡ (if not b then None else Some parent)
  not-turned true = refl
  not-turned false = refl

  not-itself : (b : Bool) → parent ≢ k → (if b then Some parent else None) ≢ Some k
  not-itself true outside e = outside cc
  not-itself false outside e = cc

  childless-back : (b : Bool) → TaskFits w (task b) → (t : ℕ) → (behind b).state.tasks.parents t ≢ Some k
  childless-back b h t s = go (t == k) refl where
    go : (c : Bool) → (t == k) ≡ c → ⊥
    go true e = not-itself b h.outside (sym (cond-in (t == k) (if b then Some parent else None) (below t) e) ∙ s)
    go false e = h.childless t (sym (cond-out (t == k) (if b then Some parent else None) (below t) e) ∙ s)

  run-back : (b : Bool) → TaskFits w (task b) → back b ≡ flip w
  run-back b h = walk-same (back b) (flip w)
      (state-same (back b).state w.state (λ i. record w.state.tasks { parents = λ t. parents-back b h t i }) refl (λ page. refl) (λ a. refl))
      (λ a. refl) (λ a. refl) refl (spare-back b h)

  run-fits : (b : Bool) → TaskFits w (task b) → TaskFits (behind b) (task (not b))
  run-fits b h = record {
    range = h.range;
    other = task-there b ∙ not-turned b;
    parent = (let P : Option ℕ → Type 0 = λ o. IsSome o in subst P (sym (others-stay b parent h.outside)) h.parent);
    outside = h.outside;
    childless = childless-back b h;
    idle = h.idle;
    later = h.later;
    zeros = h.zeros;
    room = room-back b h;
  }

pub task-back : (w : Walk) (r : TaskRecord) → TaskFits w r → task_step (flip (task_step w r)) (record r { present = not r.present }) ≡ flip w
task-back w r h = run-back w r.task r.parent r.present h

pub task-fits : (w : Walk) (r : TaskRecord) → TaskFits w r → TaskFits (flip (task_step w r)) (record r { present = not r.present })
task-fits w r h = run-fits w r.task r.parent r.present h

pub turn-back : (w : Walk) (r : TurnRecord) → turn_step (flip (turn_step w r)) (record { task = w.state.tasks.current }) ≡ flip w
turn-back w r = refl

pub turn-fits : (w : Walk) (r : TurnRecord) → TurnFits w r → TurnFits (flip (turn_step w r)) (record { task = w.state.tasks.current })
turn-fits w r h = record { task = h.current; current = h.task }
