-- The first element of a list that passes a test.
use Rattle.std.proofs.Common.{◌≡◌, ℕ, zero, suc, ◌+◌, ◌<◌, ◌≤◌, ◌⊎◌, inl, inr, Bool, true, false, if◌then◌else◌, List, [], ◌∷◌, ◌++◌, map, flat_map, Some, None, refl, sym, ap, ◌∙◌, arith}
use Rattle.std.specs.List.{range_with_len}
use Rattle.std.proofs.lemmas.Bool.{cases_order}
use Rattle.std.proofs.lemmas.Grind.{flat_map-append}
use Rattle.std.proofs.lemmas.List.{append_assoc}
use Rattle.storage_changes.specs.Meaning.{first_of}
use Rattle.storage_changes.proofs.Cases.{cond-in, cond-out}

-- the list is some elements, this one, and more
abbrev pub IsIn : {A : Type 0} → A → List A → Type 0
IsIn {A} x xs = (before : List A) × (after : List A) × (xs ≡ before ++ x ∷ after)

pub in-range : (n first count : ℕ) → first ≤ n → n < first + count → IsIn n (range_with_len first count)
in-range n first zero low high = absurd (omega (arith, low, high))
in-range n first (suc count) low high =
    go (cases_order first n) (λ l. let t = in-range n (first + 1) count (omega (arith, l)) (omega (arith, high)) in (first ∷ t.0, t.1, ap (λ x. first ∷ x) t.2)) where
      go : (first ≡ n) ⊎ ((first < n) ⊎ (n < first)) → (first < n → IsIn n (range_with_len first (suc count))) → IsIn n (range_with_len first (suc count))
      go (inl e) later = ([], range_with_len (first + 1) count, λ i. e i ∷ range_with_len (first + 1) count)
      go (inr (inl l)) later = later l
      go (inr (inr g)) later = absurd (omega (arith, low, g))

map-append : {A B : Type 0} (f : A → B) (xs ys : List A) → map f (xs ++ ys) ≡ map f xs ++ map f ys
map-append f [] ys = refl
map-append f (x ∷ xs) ys = ap (λ z. f x ∷ z) (map-append f xs ys)

pub in-map : {A B : Type 0} (f : A → B) (x : A) (xs : List A) → IsIn x xs → IsIn (f x) (map f xs)
in-map f x xs t = (map f t.0, map f t.1, ap (λ z. map f z) t.2 ∙ map-append f t.0 (x ∷ t.1))

pub in-flat_map : {A B : Type 0} (f : A → List B) (x : A) (y : B) (xs : List A) → IsIn x xs → IsIn y (f x) → IsIn y (flat_map f xs)
in-flat_map f x y xs t u = (
  flat_map f t.0 ++ u.0,
  u.1 ++ flat_map f t.1,
  ap (λ z. flat_map f z) t.2
      ∙ flat_map-append f t.0 (x ∷ t.1)
      ∙ ap (λ z. flat_map f t.0 ++ (z ++ flat_map f t.1)) u.2
      ∙ ap (λ z. flat_map f t.0 ++ z) (append_assoc u.0 (y ∷ u.1) (flat_map f t.1))
      ∙ sym (append_assoc (flat_map f t.0) u.0 (y ∷ (u.1 ++ flat_map f t.1))),
)

module _ (A : Type 0) (passes : A → Bool) where
  pub first-passes : (xs : List A) (p : A) → first_of passes xs ≡ Some p → passes p ≡ true
  first-passes [] p e = cc
  first-passes (x ∷ xs) p e = go (passes x) refl e (first-passes xs p) where
    go : (b : Bool) → passes x ≡ b → (if b then Some x else first_of passes xs) ≡ Some p → (first_of passes xs ≡ Some p → passes p ≡ true) → passes p ≡ true
    go true h s later = let same : x ≡ p = cc in ap passes (sym same) ∙ h
    go false h s later = later s

  pub first-found : (p : A) → passes p ≡ true → ((q : A) → passes q ≡ true → q ≡ p) → (before after : List A) → first_of passes (before ++ p ∷ after) ≡ Some p
  first-found p passed only [] after = cond-in (passes p) (Some p) (first_of passes after) passed
  first-found p passed only (x ∷ before) after = go (passes x) refl (first-found p passed only before after) where
    go : (b : Bool) → passes x ≡ b → first_of passes (before ++ p ∷ after) ≡ Some p → (if b then Some x else first_of passes (before ++ p ∷ after)) ≡ Some p
    go true h later = ap (λ q. Some q) (only x h)
    go false h later = later

  pub first-missed : (p : A) (before after : List A) → first_of passes (before ++ p ∷ after) ≡ None → passes p ≡ false
  first-missed p [] after e = go (passes p) refl e where
    go : (b : Bool) → passes p ≡ b → (if b then Some p else first_of passes after) ≡ None → passes p ≡ false
    go true h s = cc
    go false h s = h
  first-missed p (x ∷ before) after e = go (passes x) e (first-missed p before after) where
    go : (b : Bool) → (if b then Some x else first_of passes (before ++ p ∷ after)) ≡ None → (first_of passes (before ++ p ∷ after) ≡ None → passes p ≡ false) → passes p ≡ false
    go true s later = cc
    go false s later = later s

  pub first-nothing : ((q : A) → passes q ≡ false) → (xs : List A) → first_of passes xs ≡ None
  first-nothing none [] = refl
  first-nothing none (x ∷ xs) = cond-out (passes x) (Some x) (first_of passes xs) (none x) ∙ first-nothing none xs
