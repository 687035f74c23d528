-- Lists with another element, or one more.
use Rattle.std.proofs.Common.{◌≡◌, ◌<◌, ℕ, zero, suc, Some, List, [], ◌∷◌, ◌++◌, length, slice_get, slice_set, refl, ap, arith}

module _ {A : Type 0} where
  pub set_there : (xs : List A) (i : ℕ) (x : A) → i < length xs → slice_get (slice_set xs i x) i ≡ Some x
  set_there [] i x within = absurd (omega arith)
  set_there (y ∷ ys) zero x within = refl
  set_there (y ∷ ys) (suc i) x within = set_there ys i x (omega arith)

  pub set_elsewhere : (xs : List A) (i k : ℕ) (x : A) → (k ≡ i → ⊥) → slice_get (slice_set xs i x) k ≡ slice_get xs k
  set_elsewhere [] i k x other = refl
  set_elsewhere (y ∷ ys) zero zero x other = absurd (other refl)
  set_elsewhere (y ∷ ys) zero (suc k) x other = refl
  set_elsewhere (y ∷ ys) (suc i) zero x other = refl
  set_elsewhere (y ∷ ys) (suc i) (suc k) x other = set_elsewhere ys i k x (λ is. other (ap suc is))

  pub pushed_there : (xs : List A) (x : A) → slice_get (xs ++ x ∷ []) (length xs) ≡ Some x
  pushed_there [] x = refl
  pushed_there (y ∷ ys) x = pushed_there ys x

  pub pushed_before : (xs : List A) (x : A) (k : ℕ) → k < length xs → slice_get (xs ++ x ∷ []) k ≡ slice_get xs k
  pushed_before [] x k within = absurd (omega arith)
  pushed_before (y ∷ ys) x zero within = refl
  pushed_before (y ∷ ys) x (suc k) within = pushed_before ys x k (omega arith)

  -- there is one
  pub is_in : (xs : List A) (i : ℕ) → i < length xs → (x : A) × (slice_get xs i ≡ Some x)
  is_in [] i within = absurd (omega arith)
  is_in (y ∷ ys) zero within = (y, refl)
  is_in (y ∷ ys) (suc i) within = is_in ys i (omega arith)
