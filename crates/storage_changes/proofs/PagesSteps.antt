-- A run of pages that is assigned, or unassigned, and back.
use Rattle.std.proofs.Common.{◌≡◌, ℕ, ◌<◌, ◌≤◌, ◌/◌, Bool, true, false, not, Option, None, IsSome, refl, sym, ◌∙◌, arith, subst}
use Rattle.run_set.specs.Runs.{Run, inside}
use Rattle.run_set.specs.Counts.{joins}
use Rattle.run_set.proofs.CountLemmas.{neighbours_stay}
use Rattle.storage_changes.specs.declared.record.PagesRecord.{PagesRecord}
use Rattle.storage_changes.specs.Walk.{Walk, flip}
use Rattle.storage_changes.specs.Steps.{pages_spare, pages_step}
use Rattle.storage_changes.specs.Fits.{FrameIs, PagesFits}
use Rattle.storage_changes.proofs.Cases.{cond-back, cond-kept, cond-in, cond-out, not-not, state-same, walk-same}

abbrev pages_record : Run → Bool → PagesRecord
pages_record run b = record { run = run; assigned = b }

module _ (w : Walk) (run : Run) where
  abbrev behind : Bool → Walk
  behind b = flip (pages_step w (pages_record run b))

  outside-same : (b : Bool) (page : ℕ) → inside page run ≡ false → (behind b).state.unassigned page ≡ w.state.unassigned page
  outside-same b page o = cond-out (inside page run) (not b) (w.state.unassigned page) o

  beside : (b : Bool) → 0 < run.len → (joins (behind b).state.unassigned run ≡ joins w.state.unassigned run) × (joins w.state.unassigned run ≤ 2)
  beside b some = neighbours_stay w.state.unassigned (behind b).state.unassigned run some (outside-same b)

  spare-back : (b : Bool) → PagesFits w (pages_record run b) → pages_spare (behind b) (pages_record run (not b)) ≡ w.spare
  spare-back true h = omega (arith, (beside true h.some).0, (beside true h.some).1, h.room)
  spare-back false h = omega (arith, (beside false h.some).0, (beside false h.some).1, h.room)

  abbrev back : Bool → Walk
  back b = pages_step (behind b) (pages_record run (not b))

  unassigned-back : (b : Bool) → PagesFits w (pages_record run b) → (page : ℕ) → (back b).state.unassigned page ≡ w.state.unassigned page
  unassigned-back b h page = cond-back (inside page run) (not (not b)) (not b) (w.state.unassigned page) (λ c. not-not b ∙ sym (h.other page c))

  bytes-back : (b : Bool) → PagesFits w (pages_record run b) → (a : ℕ) → (back b).state.bytes a ≡ w.state.bytes a
  bytes-back true h a = cond-back (inside (a / 4096) run) None (w.brought a) (w.state.bytes a) (λ c. sym (h.frame a c).not_with_other)
  bytes-back false h a = cond-kept (inside (a / 4096) run) (w.state.bytes a) (w.given a) None

  brought-back : (b : Bool) → PagesFits w (pages_record run b) → (a : ℕ) → (back b).brought a ≡ w.given a
  brought-back true h a = cond-back (inside (a / 4096) run) None None (w.given a) (λ c. sym (h.frame a c).not_given)
  brought-back false h a = cond-back (inside (a / 4096) run) None (w.state.bytes a) (w.given a) (λ c. sym (h.frame a c).not_given)

  given-back : (b : Bool) → PagesFits w (pages_record run b) → (a : ℕ) → (back b).given a ≡ w.brought a
  given-back true h a = cond-kept (inside (a / 4096) run) (w.brought a) (w.state.bytes a) None
  given-back false h a = cond-back (inside (a / 4096) run) None None (w.brought a) (λ c. sym (h.frame a c).not_with_other)

  frame-back : (b : Bool) → PagesFits w (pages_record run b) → (a : ℕ) → inside (a / 4096) run ≡ true
      → FrameIs (not b) ((behind b).brought a) ((behind b).state.bytes a) ((behind b).given a)
  frame-back true h a c = record {
    there = (let P : Option ℕ → Type 0 = λ o. IsSome o in subst P (sym (cond-in (inside (a / 4096) run) (w.brought a) (w.state.bytes a) c)) (h.frame a c).there);
    not_with_other = cond-in (inside (a / 4096) run) None (w.given a) c;
    not_given = cond-in (inside (a / 4096) run) None (w.brought a) c;
  }
  frame-back false h a c = record {
    there = (let P : Option ℕ → Type 0 = λ o. IsSome o in subst P (sym (cond-in (inside (a / 4096) run) (w.state.bytes a) (w.given a) c)) (h.frame a c).there);
    not_with_other = cond-in (inside (a / 4096) run) None (w.state.bytes a) c;
    not_given = cond-in (inside (a / 4096) run) None (w.brought a) c;
  }

  run-back : (b : Bool) → PagesFits w (pages_record run b) → back b ≡ flip w
  run-back b h = walk-same (back b) (flip w)
      (state-same (back b).state w.state refl refl (unassigned-back b h) (bytes-back b h))
      (brought-back b h) (given-back b h) refl (spare-back b h)

  run-fits : (b : Bool) → PagesFits w (pages_record run b) → PagesFits (behind b) (pages_record run (not b))
  run-fits b h = record {
    some = h.some;
    high = h.high;
    other = λ page i. cond-in (inside page run) (not b) (w.state.unassigned page) i;
    frame = frame-back b h;
    room = h.room_after;
    room_after = (let P : ℕ → Type 0 = λ n. 0 < n in subst P (sym (spare-back b h)) h.room);
  }

pub pages-back : (w : Walk) (r : PagesRecord) → PagesFits w r → pages_step (flip (pages_step w r)) (record r { assigned = not r.assigned }) ≡ flip w
pages-back w r h = run-back w r.run r.assigned h

pub pages-fits : (w : Walk) (r : PagesRecord) → PagesFits w r → PagesFits (flip (pages_step w r)) (record r { assigned = not r.assigned })
pages-fits w r h = run-fits w r.run r.assigned h
