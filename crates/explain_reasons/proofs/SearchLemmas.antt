-- The first number of an area that passes: page by page, and by the free areas in order.
use Rattle.std.proofs.Common.{◌≡◌, ℕ, ◌+◌, ◌/◌, ◌<◌, ◌≤◌, Bool, true, false, not, ◌&&◌, ◌||◌, max, min, inl, inr, List, [], ◌∷◌, Option, Some, None, refl, sym, ap, subst, ◌∙◌, arith}
use Rattle.std.proofs.lemmas.Grind.{common_steps}
use Rattle.run_set.specs.Runs.{Run}
use Rattle.run_set.specs.Runs.{inside, contains, Spaced, AreRunsOf}
use Rattle.run_set.proofs.PartLemmas.{before}
use Rattle.run_set.proofs.RunLemmas.{true_inside, le_or_lt}
use Rattle.vsm_model.specs.declared.Subpool.{Subpool}
use Rattle.vsm_model.specs.Areas.{is_free}
use Rattle.vsm_model.specs.Releasing.{is_not_taken}
use Rattle.vsm_model.specs.Search.{holds, IsLeastAmong}
use Rattle.vsm_model.specs.State.{State}
use Rattle.vsm_model.specs.Subpools.{same_subpool}
use Rattle.explain_reasons.specs.Searches.{is_beside, lesser}

-- None before a number passes, nor from there to the end of its page, if the test looks only at pages.
pub none_on_page : (f : ℕ → Bool) (first at next : ℕ) → ((d : ℕ) → first ≤ d → d < at → f d ≡ false) → f at ≡ false
    → ((d : ℕ) → at ≤ d → d < next → f d ≡ f at) → (d : ℕ) → first ≤ d → d < next → f d ≡ false
none_on_page f first at next none here same d from below = elim (le_or_lt at d) [
  | inl after ↦ same d after below ∙ here
  | inr earlier ↦ none d from earlier
]

-- Of some runs these are left, and no number from a first one on is in those before them.
pub record AreLeft (rs : List Run) (first : ℕ) (left : List Run) : Type 0 where
  pub low : ℕ
  pub spaced : Spaced low left
  pub same : (d : ℕ) → first ≤ d → contains d rs ≡ contains d left

pub all_left : (rs : List Run) (set : ℕ → Bool) (first : ℕ) → AreRunsOf rs set → AreLeft rs first rs
all_left rs set first h = record { low = 0; spaced = h.spaced; same = λ d from. refl }

not_inside : (d : ℕ) (r : Run) → r.start + r.len ≤ d → inside d r ≡ false
not_inside d r h = grind (arith, common_steps)

before_it : (d : ℕ) (r : Run) → d < r.start → inside d r ≡ false
before_it d r h = grind (arith, common_steps)

-- a run that ends before the first number is passed
pub less_left : (rs left rest : List Run) (first : ℕ) (r : Run) → left ≡ r ∷ rest → r.start + r.len ≤ first → AreLeft rs first left → AreLeft rs first rest
less_left rs left rest first r e ends h = record {
  low = r.start + r.len + 1;
  spaced = (subst (Spaced h.low) e h.spaced).3;
  same = λ d from. h.same d from ∙ ap (contains d) e ∙ ap (λ (x : Bool). x || contains d rest) (not_inside d r (omega arith));
}

module _ (rs left rest : List Run) (set : ℕ → Bool) (first : ℕ) (r : Run) (are : AreRunsOf rs set) (h : AreLeft rs first left) (e : left ≡ r ∷ rest) where
  in_set : (d : ℕ) → first ≤ d → contains d (r ∷ rest) ≡ set d
  in_set d from = ap (contains d) (sym e) ∙ sym (h.same d from) ∙ are.holds d

  -- no number before the run that isn't past is in the set
  pub none_before : (d k : ℕ) → d ≡ max r.start first → first ≤ k → k < d → first < r.start + r.len → set k ≡ false
  none_before d k is from below ends =
      let early : k < r.start = grind (arith, common_steps) in
      sym (in_set k from) ∙ ap (λ (x : Bool). x || contains k rest) (before_it k r early)
      ∙ before (r.start + r.len + 1) k rest ((subst (Spaced h.low) e h.spaced).3) (omega arith)

  pub found_in : (d len : ℕ) → d ≡ max r.start first → first < r.start + r.len → d < first + len → IsLeastAmong set first len (Some d)
  found_in d len is ends below =
      let some : 0 < r.len = (subst (Spaced h.low) e h.spaced).1 in
      let from : first ≤ d = grind (arith, common_steps) in
      let low : r.start ≤ d = grind (arith, common_steps) in
      let high : d < r.start + r.len = grind (arith, common_steps) in (
        sym (in_set d from) ∙ ap (λ (x : Bool). x || contains d rest) (true_inside d r low high),
        from,
        below,
        λ k after early. none_before d k is after early ends,
      )

  pub found_past : (d len : ℕ) → d ≡ max r.start first → first < r.start + r.len → first + len ≤ d → IsLeastAmong set first len None
  found_past d len is ends past = λ k after early. none_before d k is after (omega arith) ends

pub found_none : (rs left : List Run) (set : ℕ → Bool) (first len : ℕ) → AreRunsOf rs set → AreLeft rs first left → left ≡ [] → IsLeastAmong set first len None
found_none rs left set first len are h e = λ k after early. sym (are.holds k) ∙ h.same k after ∙ ap (contains k) e

-- the same of a test that answers alike
pub least_alike : (f g : ℕ → Bool) (first len : ℕ) (o : Option ℕ) → ((d : ℕ) → g d ≡ f d) → IsLeastAmong f first len o → IsLeastAmong g first len o
least_alike f g first len None same h = λ k after early. same k ∙ h k after early
least_alike f g first len (Some d) same (at, from, below, none) = (same d ∙ at, from, below, λ k after early. same k ∙ none k after early)

-- the first that passes one of two tests is the lesser of the first of each
either_left : (a b : Bool) → a ≡ true → (a || b) ≡ true
either_left a b e = ap (λ (x : Bool). x || b) e

either_right : (a b : Bool) → b ≡ true → (a || b) ≡ true
either_right true b e = refl
either_right false b e = e

neither : (a b : Bool) → a ≡ false → b ≡ false → (a || b) ≡ false
neither a b e f = ap (λ (x : Bool). x || b) e ∙ f

pub least_of_both : (f g : ℕ → Bool) (first len : ℕ) (x y : Option ℕ) → IsLeastAmong f first len x → IsLeastAmong g first len y
    → IsLeastAmong (λ d. f d || g d) first len (lesser x y)
least_of_both f g first len (Some i) (Some j) h k = elim (le_or_lt i j) [
  | inl less ↦
      let is : min i j ≡ i = grind (arith, common_steps) in
      subst (λ (d : ℕ). IsLeastAmong (λ d. f d || g d) first len (Some d)) (sym is)
      (either_left (f i) (g i) h.0, h.1, h.2, λ d from below. neither (f d) (g d) (h.3 d from below) (k.3 d from (omega arith)))
  | inr more ↦
      let is : min i j ≡ j = grind (arith, common_steps) in
      subst (λ (d : ℕ). IsLeastAmong (λ d. f d || g d) first len (Some d)) (sym is)
      (either_right (f j) (g j) k.0, k.1, k.2, λ d from below. neither (f d) (g d) (h.3 d from (omega arith)) (k.3 d from below))
]
least_of_both f g first len (Some i) None h k =
    (either_left (f i) (g i) h.0, h.1, h.2, λ d from below. neither (f d) (g d) (h.3 d from below) (k d from (omega (arith, h.2))))
least_of_both f g first len None (Some j) h k =
    (either_right (f j) (g j) k.0, k.1, k.2, λ d from below. neither (f d) (g d) (h d from (omega (arith, k.2))) (k.3 d from below))
least_of_both f g first len None None h k = λ d from below. neither (f d) (g d) (h d from below) (k d from below)

-- A doubleword isn't taken storage of the subpool if it's free there, or its page isn't the subpool's.
pub free_or_beside : (s : State) (p : Subpool) (d : ℕ) → is_not_taken s p d ≡ (is_free s p d || is_beside s p d)
free_or_beside s p d = go (holds (same_subpool p) (s.pages (d / 512))) (s.taken d) where
  go : (a b : Bool) → not (a && b) ≡ ((a && not b) || not a)
  go true true = refl
  go true false = refl
  go false true = refl
  go false false = refl
