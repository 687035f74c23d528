-- Lists that are read from the front: what is next, and what is left.
use Rattle.std.proofs.Common.{◌≡◌, ℕ, suc, ◌+◌, ◌-◌, ◌<◌, Bool, true, List, [], ◌∷◌, drop, Some, None, zero, refl, ◌∙◌, ap, arith}
use Rattle.std.specs.Prelude.{filter, slice_get, if◌then◌else◌}
use Rattle.std.specs.List.{range_with_len}
use Rattle.std.proofs.lemmas.Option.{slice_get_within, get_or_from_slice_get}
use Rattle.std.proofs.Math.Seq.{drop-cons}

module _ {A : Type 0} where
  -- one that passes is first among those that pass
  pub passes_first : (f : A → Bool) (x : A) (xs : List A) → f x ≡ true → filter f (x ∷ xs) ≡ x ∷ filter f xs
  passes_first f x xs e = ap (λ b. if b then x ∷ filter f xs else filter f xs) e

  -- from an index on the element there is first, or nothing is left
  pub drop_next : (xs : List A) (i : ℕ) (x : A) → slice_get xs i ≡ Some x → drop i xs ≡ x ∷ drop (suc i) xs
  drop_next xs i x at = drop-cons xs i x (slice_get_within xs i x at) ∙ ap (λ y. y ∷ drop (suc i) xs) (get_or_from_slice_get xs i x x at)

  pub drop_none : (xs : List A) (i : ℕ) → slice_get xs i ≡ None → drop i xs ≡ []
  drop_none [] zero none = refl
  drop_none [] (suc i) none = refl
  drop_none (x ∷ xs) zero none = cc
  drop_none (x ∷ xs) (suc i) none = drop_none xs i none

-- a run of numbers that isn't empty has its first one, and the others
pub run_next : (first end : ℕ) → first < end → range_with_len first (end - first) ≡ first ∷ range_with_len (first + 1) (end - (first + 1))
run_next first end less =
    let len : end - first ≡ suc (end - (first + 1)) = omega (arith, less) in
    ap (range_with_len first) len
