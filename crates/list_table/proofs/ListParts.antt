-- Membership in lists that follow one another.
use Rattle.std.proofs.Common.{◌≡◌, ℕ, ◌||◌, Bool, true, false, ◌⊎◌, inl, inr, List, ◌++◌, refl, sym, ◌∙◌}
use Rattle.vsm_elements.specs.Store.{among}
use Rattle.vsm_elements.specs.Ownership.{Apart}
use Rattle.vsm_elements.proofs.ChainLemmas.{among-append, not_both}
use Rattle.vsm_elements.proofs.ChainFrame.{false_if}

-- Booleans of membership

pub or_left : (a b : Bool) → a ≡ true → (a || b) ≡ true
or_left true b h = refl
or_left false b h = absurd (not_both false h refl)

pub or_right : (a b : Bool) → b ≡ true → (a || b) ≡ true
or_right true b h = refl
or_right false b h = h

pub or_parts : (a b : Bool) → (a || b) ≡ false → (a ≡ false) × (b ≡ false)
or_parts true b h = absurd (not_both true refl h)
or_parts false b h = (refl, h)

pub or_cases : (a b : Bool) → (a || b) ≡ true → (a ≡ true) ⊎ (b ≡ true)
or_cases true b h = inl refl
or_cases false b h = inr h

pub or_false : (a b : Bool) → a ≡ false → b ≡ false → (a || b) ≡ false
or_false true b h k = h
or_false false b h k = k

pub or_swap : (a b c : Bool) → (a || (b || c)) ≡ (b || (a || c))
or_swap true true c = refl
or_swap true false c = refl
or_swap false true c = refl
or_swap false false c = refl

pub in_left : (i : ℕ) (xs ys : List ℕ) → among i xs ≡ true → among i (xs ++ ys) ≡ true
in_left i xs ys m = among-append i xs ys ∙ or_left (among i xs) (among i ys) m

pub in_right : (i : ℕ) (xs ys : List ℕ) → among i ys ≡ true → among i (xs ++ ys) ≡ true
in_right i xs ys m = among-append i xs ys ∙ or_right (among i xs) (among i ys) m

pub in_cases : (i : ℕ) (xs ys : List ℕ) → among i (xs ++ ys) ≡ true → (among i xs ≡ true) ⊎ (among i ys ≡ true)
in_cases i xs ys m = or_cases (among i xs) (among i ys) (sym (among-append i xs ys) ∙ m)

pub out_both : (i : ℕ) (xs ys : List ℕ) → among i xs ≡ false → among i ys ≡ false → among i (xs ++ ys) ≡ false
out_both i xs ys h k = among-append i xs ys ∙ or_false (among i xs) (among i ys) h k

pub out_parts : (i : ℕ) (xs ys : List ℕ) → among i (xs ++ ys) ≡ false → (among i xs ≡ false) × (among i ys ≡ false)
out_parts i xs ys h = or_parts (among i xs) (among i ys) (sym (among-append i xs ys) ∙ h)

pub Apart-sym : (xs ys : List ℕ) → Apart xs ys → Apart ys xs
Apart-sym xs ys a i m = false_if (among i xs) (λ h. not_both (among i ys) m (a i h))

pub Apart-left : (xs ys zs : List ℕ) → Apart xs (ys ++ zs) → Apart xs ys × Apart xs zs
Apart-left xs ys zs a = (λ i m. (out_parts i ys zs (a i m)).0, λ i m. (out_parts i ys zs (a i m)).1)

pub Apart-both : (xs ys zs : List ℕ) → Apart xs ys → Apart xs zs → Apart xs (ys ++ zs)
Apart-both xs ys zs a b i m = out_both i ys zs (a i m) (b i m)
