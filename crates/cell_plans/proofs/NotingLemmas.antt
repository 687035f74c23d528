-- Doublewords that are noted one by one.
use Rattle.std.proofs.Common.{◌≡◌, ℕ, suc, ◌+◌, ◌-◌, ◌≤◌, Bool, true, false, ◌||◌, List, inl, inr, refl, sym, ap, ◌∙◌, arith}
use Rattle.std.proofs.lemmas.Bool.{cases_lt}
use Rattle.vsm_elements.specs.Store.{Store}
use Rattle.vsm_elements.specs.Ownership.{Leaves}
use Rattle.run_set.specs.Runs.{Run, inside, IsEndFrom}
use Rattle.run_set.specs.Counts.{joins, one_if, set_before}
use Rattle.free_queue.specs.declared.queue.FreeQueue.{FreeQueue}
use Rattle.free_queue.specs.FreeQueue.{is_free}
use Rattle.storage_changes.specs.StorageActions.{run_of}
use Rattle.cell_plans.proofs.FreeEnds.{inside_from, in_inside, or_here}
use Rattle.cell_plans.proofs.GivenAreas.{inside_joined}

-- if nothing was done
pub leaves-none : (s : Store) (ids : List ℕ) → Leaves s s ids ids
leaves-none s ids = record {
  others = λ i h k. refl;
  gained = λ i h k. cc;
  lost = λ i h k. cc;
  spare = refl;
  as_many = refl;
}

-- a run is joined to the number before it
pub joins-before : (set : ℕ → Bool) (r : Run) (before : ℕ) → before + 1 ≡ r.start → set before ≡ true → 1 ≤ joins set r
unfolding joins
joins-before set r before is held =
    let e : r.start ≡ suc before = omega (arith, is) in
    let one : one_if (set_before set r.start) ≡ 1 = ap (λ (n : ℕ). one_if (set_before set n)) e ∙ ap one_if held in
    omega (arith, one)

or-held : (a b : Bool) → (a ≡ true → b ≡ true) → b ≡ (a || b)
or-held true b h = h refl
or-held false b h = refl

-- one that is in the set already
pub held-already : (set : ℕ → Bool) (x end : ℕ) → IsEndFrom set x end → ¬ (end ≡ x) → (d : ℕ) → set d ≡ (inside d (run_of x 1) || set d)
held-already set x end its other d =
    let from = its.from in
    let here : set x ≡ true = elim (cases_lt x end) [ inl less ↦ its.each x (omega arith) less | inr more ↦ absurd (other (omega (arith, from, more))) ] in
    or-held (inside d (run_of x 1)) (set d) (λ own. let at = in_inside (run_of x 1) d own in let same : d ≡ x = omega (arith, at.0, at.1) in ap set same ∙ here)

or-shuffled : (a b c : Bool) → (b || (a || c)) ≡ ((a || b) || c)
or-shuffled true true c = refl
or-shuffled true false c = refl
or-shuffled false true c = refl
or-shuffled false false c = refl

-- Those from one up to another are noted, and then that one.
module _ (s t u : Store) (q r v : FreeQueue) (start x : ℕ) (from : start ≤ x)
    (set : (d : ℕ) → is_free t r d ≡ (inside d (run_of start (x - start)) || is_free s q d)) (one : (d : ℕ) → is_free u v d ≡ (inside d (run_of x 1) || is_free t r d)) where
  pub one-more : (d : ℕ) → is_free u v d ≡ (inside d (run_of start (x + 1 - start)) || is_free s q d)
  one-more d =
      let next : x + 1 - start ≡ (x - start) + 1 = omega (arith, from) in
      one d ∙ ap (λ b. inside d (run_of x 1) || b) (set d)
      ∙ or-shuffled (inside d (run_of start (x - start))) (inside d (run_of x 1)) (is_free s q d)
      ∙ ap (λ b. b || is_free s q d) (sym (inside_joined (run_of start (x - start)) (run_of x 1) d (omega (arith, from))))
      ∙ ap (λ (n : ℕ). inside d (run_of start n) || is_free s q d) (sym next)

  -- no element except the one that the first took
  pub still-spare :
      s.spare ≤ t.spare + 1 → (x ≡ start → t.spare ≡ s.spare) → t.spare ≤ u.spare + 1
      → ((before : ℕ) → before + 1 ≡ x → is_free t r before ≡ true → t.spare ≤ u.spare) → s.spare ≤ u.spare + 1
  still-spare most first step joined = elim (cases_lt start x) [
    | inr more ↦ let same : x ≡ start = omega (arith, from, more) in omega (arith, first same, step)
    | inl less ↦
        let e : (x - 1) + 1 ≡ x = omega (arith, less) in
        let held : is_free t r (x - 1) ≡ true = set (x - 1) ∙ or_here (inside (x - 1) (run_of start (x - start))) (is_free s q (x - 1)) (inside_from (run_of start (x - start)) (x - 1) (omega (arith, less)) (omega (arith, less))) in
        omega (arith, joined (x - 1) e held, most)
  ]
