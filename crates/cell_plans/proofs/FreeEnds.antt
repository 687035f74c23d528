-- The end of free doublewords that begin with one.
use Rattle.std.proofs.Common.{◌≡◌, ℕ, zero, suc, ◌+◌, ◌<◌, ◌≤◌, Bool, true, false, ◌||◌, List, [], ◌∷◌, drop, Some, None, refl, sym, ap, ◌∙◌, arith, inl, inr}
use Rattle.std.specs.Prelude.{slice_get, nat_le, nat_lt}
use Rattle.std.proofs.lemmas.Bool.{and_parts, and_from, leb-true, ltb-true, le-leb, lt-ltb, cases_lt}
use Rattle.std.proofs.lemmas.Option.{slice_get_within, get_or_from_slice_get}
use Rattle.std.proofs.Math.Seq.{drop-cons}
use Rattle.vsm_model.specs.Search.{all_pass}
use Rattle.vsm_model.proofs.Least.{all_pass_from, all_pass_none}
use Rattle.run_set.specs.Runs.{Run, inside, IsEndFrom}
use Rattle.cell_plans.specs.Emptied.{IsFreeUpTo}

-- what begins at an index
pub behind : {A : Type 0} (xs : List A) (i : ℕ) (x : A) → slice_get xs i ≡ Some x → drop i xs ≡ x ∷ drop (suc i) xs
behind xs i x at = drop-cons xs i x (slice_get_within xs i x at) ∙ ap (λ y. y ∷ drop (suc i) xs) (get_or_from_slice_get xs i x x at)

pub none_behind : {A : Type 0} (xs : List A) (i : ℕ) → slice_get xs i ≡ None → drop i xs ≡ []
none_behind [] zero none = refl
none_behind [] (suc i) none = refl
none_behind (x ∷ xs) zero none = cc
none_behind (x ∷ xs) (suc i) none = none_behind xs i none

pub inside_from : (r : Run) (d : ℕ) → r.start ≤ d → d < r.start + r.len → inside d r ≡ true
inside_from r d low high = and_from (nat_le r.start d) (nat_lt d (r.start + r.len)) (le-leb r.start d low) (lt-ltb d (r.start + r.len) high)

pub in_inside : (r : Run) (d : ℕ) → inside d r ≡ true → (r.start ≤ d) × (d < r.start + r.len)
in_inside r d e = let parts = and_parts (nat_le r.start d) (nat_lt d (r.start + r.len)) e in (leb-true r.start d parts.0, ltb-true d (r.start + r.len) parts.1)

pub or_here : (a b : Bool) → a ≡ true → (a || b) ≡ true
or_here true b e = refl
or_here false b e = cc

pub or_there : (a b : Bool) → b ≡ true → (a || b) ≡ true
or_there true b e = refl
or_there false b e = e

-- the end of a set's doublewords, if the set is that of the free ones
pub up_to_end : (set free : ℕ → Bool) (first end : ℕ) → ((d : ℕ) → set d ≡ free d) → IsEndFrom set first end → IsFreeUpTo free first end
up_to_end set free first end is its = record {
  from = its.from;
  each = λ d from below. sym (is d) ∙ its.each d from below;
  none = λ e. sym (is first) ∙ ap set (sym e) ∙ its.past;
}

-- two sets, the second after the first
module _ (one two both : ℕ → Bool) (is : (d : ℕ) → both d ≡ (one d || two d)) (d : ℕ) where
  pub ends_in_one : (end : ℕ) → IsFreeUpTo one d end → d < end → IsFreeUpTo both d end
  ends_in_one end its more = record {
    from = its.from;
    each = λ k from below. is k ∙ or_here (one k) (two k) (its.each k from below);
    none = λ e. absurd (omega (arith, more, e));
  }

  pub ends_in_two : (none end : ℕ) → IsFreeUpTo one d none → none ≤ d → IsFreeUpTo two d end → IsFreeUpTo both d end
  ends_in_two none end its low other =
      let out : one d ≡ false = (let from = its.from in let e : none ≡ d = omega (arith, from, low) in its.none e) in
      record {
        from = other.from;
        each = λ k from below. is k ∙ or_there (one k) (two k) (other.each k from below);
        none = λ e. is d ∙ ap (λ b. b || two d) out ∙ other.none e;
      }

-- from end to end
pub goes_on : (free : ℕ → Bool) (first d end : ℕ) → ((k : ℕ) → first ≤ k → k < d → free k ≡ true) → IsFreeUpTo free d end → (k : ℕ) → first ≤ k → k < end → free k ≡ true
goes_on free first d end h its k from below = elim (cases_lt k d) [ inl less ↦ h k from less | inr more ↦ its.each k more below ]

pub all_free : (free : ℕ → Bool) (first count d : ℕ) → first + count ≤ d → ((k : ℕ) → first ≤ k → k < d → free k ≡ true) → true ≡ all_pass free first count
all_free free first count d past h = sym (all_pass_from free first count (λ k from below. h k from (omega (arith, past, below))))

pub not_all_free : (free : ℕ → Bool) (first count d end : ℕ) → first ≤ d → d < first + count → IsFreeUpTo free d end → end ≡ d → false ≡ all_pass free first count
not_all_free free first count d end from below its stays = sym (all_pass_none free first count d from below (its.none stays))
