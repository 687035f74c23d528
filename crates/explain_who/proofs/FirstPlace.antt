-- The first place of a list that passes.
use Rattle.std.proofs.Common.{◌≡◌, ℕ, suc, ◌+◌, ◌≤◌, Bool, true, false, not, cond, List, [], ◌∷◌, length, Option, Some, None, nat_lt, refl, arith}
use Rattle.std.specs.Prelude.{position}
use Rattle.std.specs.List.{position_or_len, prefix_len}
use Rattle.std.proofs.lemmas.Bool.Decides.{nat_tests}

one_more : (b : Bool) (m n : ℕ) → m ≤ n → cond b (1 + m) 0 ≤ suc n
one_more true m n h = omega (arith, h)
one_more false m n h = omega arith

few_pass : (p : ℕ → Bool) (xs : List ℕ) → prefix_len p xs ≤ length xs
few_pass p [] = omega arith
few_pass p (x ∷ xs) = one_more (p x) (prefix_len p xs) (length xs) (few_pass p xs)

-- the first place that passes, if there is one
found_first : (b : Bool) (l i : ℕ) → cond b (Some l) None ≡ Some i → i ≡ l
found_first true l i e = cc
found_first false l i e = absurd (let no : ◌≡◌ {A = Option ℕ} None (Some i) = e in cc)

none_first : (b : Bool) (l n : ℕ) → nat_lt l n ≡ b → l ≤ n → cond b (Some l) None ≡ None → n ≡ l
none_first true l n is few e = absurd (let no : ◌≡◌ {A = Option ℕ} (Some l) None = e in cc)
none_first false l n is few e = (let ends : n ≤ l = grind (arith, nat_tests, is) in omega (arith, few, ends))

pub place_first : (p : ℕ → Bool) (xs : List ℕ) (i : ℕ) → position p xs ≡ Some i → i ≡ position_or_len p xs
place_first p xs i e = found_first (nat_lt (position_or_len p xs) (length xs)) (position_or_len p xs) i e

pub place_within : (p : ℕ → Bool) (xs : List ℕ) → position_or_len p xs ≤ length xs
place_within p xs = few_pass (λ x. not (p x)) xs

pub place_none : (p : ℕ → Bool) (xs : List ℕ) → position p xs ≡ None → length xs ≡ position_or_len p xs
place_none p xs e =
    none_first (nat_lt (position_or_len p xs) (length xs)) (position_or_len p xs) (length xs) refl (place_within p xs) e
