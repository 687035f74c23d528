-- Lists of ids in parts.
use Rattle.std.proofs.Common.{◌≡◌, ◌≢◌, ℕ, Bool, true, false, ◌||◌, ◌⊎◌, inl, inr, List, [], ◌∷◌, ◌++◌, refl, sym, ap, ◌∙◌}
use Rattle.vsm_elements.specs.Store.{among, Distinct}
use Rattle.vsm_elements.proofs.StoreLemmas.{among_first, among_later, among_cons}
use Rattle.vsm_elements.proofs.ChainLemmas.{among-append, not_both, distinct_remove}
use Rattle.vsm_elements.proofs.OwnerLemmas.{Distinct-parts}

or_left : (a b : Bool) → a ≡ true → (a || b) ≡ true
or_left true b h = refl
or_left false b h = absurd (not_both false h refl)

or_right : (a b : Bool) → b ≡ true → (a || b) ≡ true
or_right true b h = refl
or_right false b h = h

or_cases : (a b : Bool) → (a || b) ≡ true → (a ≡ true) ⊎ (b ≡ true)
or_cases true b h = inl refl
or_cases false b h = inr h

or_false : (a b : Bool) → (a || b) ≡ false → (a ≡ false) × (b ≡ false)
or_false true b h = absurd (not_both true refl h)
or_false false b h = (refl, h)

pub false_if : (b : Bool) → (b ≡ true → ⊥) → b ≡ false
false_if true h = absurd (h refl)
false_if false h = refl

pub in_left : (i : ℕ) (xs ys : List ℕ) → among i xs ≡ true → among i (xs ++ ys) ≡ true
in_left i xs ys h = among-append i xs ys ∙ or_left (among i xs) (among i ys) h

pub in_right : (i : ℕ) (xs ys : List ℕ) → among i ys ≡ true → among i (xs ++ ys) ≡ true
in_right i xs ys h = among-append i xs ys ∙ or_right (among i xs) (among i ys) h

pub in_middle : (xs : List ℕ) (x : ℕ) (ys : List ℕ) → among x (xs ++ x ∷ ys) ≡ true
in_middle xs x ys = in_right x xs (x ∷ ys) (among_first x ys)

pub in_last : (i : ℕ) (xs : List ℕ) (x : ℕ) (ys : List ℕ) → among i ys ≡ true → among i (xs ++ x ∷ ys) ≡ true
in_last i xs x ys h = in_right i xs (x ∷ ys) (among_later i x ys h)

pub in_parts : (i : ℕ) (xs ys : List ℕ) → among i (xs ++ ys) ≡ true → (among i xs ≡ true) ⊎ (among i ys ≡ true)
in_parts i xs ys h = or_cases (among i xs) (among i ys) (sym (among-append i xs ys) ∙ h)

pub out_parts : (i : ℕ) (xs ys : List ℕ) → among i (xs ++ ys) ≡ false → (among i xs ≡ false) × (among i ys ≡ false)
out_parts i xs ys h = or_false (among i xs) (among i ys) (sym (among-append i xs ys) ∙ h)

pub out_of : (i : ℕ) (xs ys : List ℕ) → among i xs ≡ false → among i ys ≡ false → among i (xs ++ ys) ≡ false
out_of i xs ys h k = among-append i xs ys ∙ ap (λ (b : Bool). b || among i ys) h ∙ k

pub out_cons : (i x : ℕ) (ys : List ℕ) → among i (x ∷ ys) ≡ false → (i ≢ x) × (among i ys ≡ false)
out_cons i x ys h = (
  λ e. not_both (among i (x ∷ ys)) (ap (λ (j : ℕ). among j (x ∷ ys)) e ∙ among_first x ys) h,
  false_if (among i ys) (λ m. not_both (among i (x ∷ ys)) (among_later i x ys m) h),
)

pub out_of_cons : (i x : ℕ) (ys : List ℕ) → i ≢ x → among i ys ≡ false → among i (x ∷ ys) ≡ false
out_of_cons i x ys ne h = among_cons i x ys ne ∙ h

-- the parts of a list of different ids

pub distinct_left : (xs ys : List ℕ) → Distinct (xs ++ ys) → Distinct xs
distinct_left [] ys d = tt
distinct_left (x ∷ xs) ys d = ((out_parts x xs ys d.0).0, distinct_left xs ys d.1)

pub distinct_right : (xs ys : List ℕ) → Distinct (xs ++ ys) → Distinct ys
distinct_right xs ys d = (Distinct-parts xs ys d).0

pub distinct_apart : (xs ys : List ℕ) → Distinct (xs ++ ys) → (i : ℕ) → among i xs ≡ true → among i ys ≡ false
distinct_apart xs ys d = (Distinct-parts xs ys d).1

pub distinct_apart_back : (xs ys : List ℕ) → Distinct (xs ++ ys) → (i : ℕ) → among i ys ≡ true → among i xs ≡ false
distinct_apart_back xs ys d i m = false_if (among i xs) (λ h. not_both (among i ys) m (distinct_apart xs ys d i h))

-- what is next to the middle one is not the middle one
pub not_middle : (xs : List ℕ) (x : ℕ) (ys : List ℕ) → Distinct (xs ++ x ∷ ys) → (i : ℕ) → among i (xs ++ ys) ≡ true → i ≢ x
not_middle xs x ys d i m e = not_both (among i (xs ++ ys)) m (ap (λ (j : ℕ). among j (xs ++ ys)) e ∙ (distinct_remove xs ys x d).0)
