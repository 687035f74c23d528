-- Lists of subpool numbers that aren't bad.
use Rattle.std.proofs.Common.{◌≡◌, ◌≢◌, ◌⊎◌, ℕ, zero, suc, ◌<◌, ◌≤◌, Bool, true, false, ◌||◌, ◌==◌, nat_lt, Option, Some, None, List, [], ◌∷◌, ◌++◌, slice_get, refl, sym, ◌∙◌, ap, subst, arith, inl, inr, true≢false}
use Rattle.std.specs.Prelude.{unwrap_or, is_none}
use Rattle.std.specs.List.{AllByRecursion, list_any}
use Rattle.std.proofs.lemmas.Bool.{both_ways, or_left, or_right, or_cases, or_parts, eqb-true, eq-eqb, ltb-true, ltb-false, false_from_ne_true, cases_eq}
use Rattle.vsm_model.specs.Search.{is_in}
use Rattle.vsm_model.specs.Passing.{is_bad_list}
use Rattle.service_laws.specs.Attached.{AreNumbers}
use Rattle.service_laws.specs.TaskFirstCauses.{HasBadNumber}
use Rattle.service_laws.proofs.Options.{none_some, same_some}

-- each number is from 1 to 127
abbrev pub IsPrivate : ℕ → Type 0
IsPrivate n = (1 ≤ n) × (n ≤ 127)

-- no number appears again in the list after it
abbrev pub AreApart : List ℕ → Type 0
AreApart [] = Unit {0}
AreApart (x ∷ xs) = (is_in xs x ≡ false) × AreApart xs

none_of_four : (a b c d : Bool) → (a || b || c || d) ≡ false → (a ≡ false) × (b ≡ false) × (c ≡ false) × (d ≡ false)
none_of_four true b c d e = absurd (true≢false e)
none_of_four false true c d e = absurd (true≢false e)
none_of_four false false true d e = absurd (true≢false e)
none_of_four false false false d e = (refl, refl, refl, e)

-- a number that isn't zero
above_zero : (n : ℕ) → (n == 0) ≡ false → 1 ≤ n
above_zero n e =
    elim (cases_eq n 0) [
      | inl is ↦ absurd (both_ways (n == 0) e (eq-eqb n 0 is))
      | inr other ↦ omega (arith, other)
    ]

pub good_numbers : (numbers : List ℕ) → is_bad_list numbers ≡ false → AllByRecursion IsPrivate numbers × AreApart numbers
good_numbers [] e = (tt, tt)
good_numbers (x ∷ xs) e =
    let parts = none_of_four (x == 0) (nat_lt 127 x) (is_in xs x) (is_bad_list xs) e in
    let rest = good_numbers xs parts.3 in
    (((above_zero x parts.0, ltb-false 127 x parts.1), rest.0), (parts.2, rest.1))

pub in_left : (xs ys : List ℕ) (n : ℕ) → is_in xs n ≡ true → is_in (xs ++ ys) n ≡ true
in_left [] ys n e = absurd (true≢false (sym e))
in_left (x ∷ xs) ys n e =
    elim (or_cases (x == n) (is_in xs n) e) [
      | inl is ↦ or_left (x == n) (is_in (xs ++ ys) n) is
      | inr later ↦ or_right (x == n) (is_in (xs ++ ys) n) (in_left xs ys n later)
    ]

pub in_right : (xs ys : List ℕ) (n : ℕ) → is_in ys n ≡ true → is_in (xs ++ ys) n ≡ true
in_right [] ys n e = e
in_right (x ∷ xs) ys n e = or_right (x == n) (is_in (xs ++ ys) n) (in_right xs ys n e)

-- lists that are apart together are apart each, and from one another
pub apart_left : (xs ys : List ℕ) → AreApart (xs ++ ys) → AreApart xs
apart_left [] ys h = tt
apart_left (x ∷ xs) ys h =
    (false_from_ne_true (is_in xs x) (λ is. both_ways (is_in (xs ++ ys) x) h.0 (in_left xs ys x is)), apart_left xs ys h.1)

pub apart_right : (xs ys : List ℕ) → AreApart (xs ++ ys) → AreApart ys
apart_right [] ys h = h
apart_right (x ∷ xs) ys h = apart_right xs ys h.1

pub not_in_both : (xs ys : List ℕ) (n : ℕ) → AreApart (xs ++ ys) → is_in xs n ≡ true → is_in ys n ≡ true → ⊥
not_in_both [] ys n h in_xs in_ys = true≢false (sym in_xs)
not_in_both (x ∷ xs) ys n h in_xs in_ys =
    elim (or_cases (x == n) (is_in xs n) in_xs) [
      | inl is ↦ both_ways (is_in (xs ++ ys) x) h.0 (ap (is_in (xs ++ ys)) (eqb-true x n is) ∙ in_right xs ys n in_ys)
      | inr later ↦ not_in_both xs ys n h.1 later in_ys
    ]

-- what holds of each number in the list
pub all_in : (P : ℕ → Type 0) (xs : List ℕ) → ((n : ℕ) → is_in xs n ≡ true → P n) → AllByRecursion P xs
all_in P [] h = tt
all_in P (x ∷ xs) h = (
  h x (or_left (x == x) (is_in xs x) (eq-eqb x x refl)),
  all_in P xs (λ n e. h n (or_right (x == n) (is_in xs n) e)),
)

pub in_all : (P : ℕ → Type 0) (xs : List ℕ) → AllByRecursion P xs → (n : ℕ) → is_in xs n ≡ true → P n
in_all P [] h n e = absurd (true≢false (sym e))
in_all P (x ∷ xs) h n e =
    elim (or_cases (x == n) (is_in xs n) e) [
      | inl is ↦ subst P (eqb-true x n is) h.0
      | inr later ↦ in_all P xs h.1 n later
    ]

pub other_way : (a b : ℕ) → (a == b) ≡ false → (b == a) ≡ false
other_way a b e = false_from_ne_true (b == a) (λ is. both_ways (a == b) e (eq-eqb a b (sym (eqb-true b a is))))

-- A number at a place is in the list, and if no number appears again later it's at no other place.
pub at_is_in : (xs : List ℕ) (i n : ℕ) → slice_get xs i ≡ Some n → is_in xs n ≡ true
at_is_in [] i n e = absurd (none_some n e)
at_is_in (x ∷ xs) zero n e = or_left (x == n) (is_in xs n) (eq-eqb x n (same_some x n e))
at_is_in (x ∷ xs) (suc i) n e = or_right (x == n) (is_in xs n) (at_is_in xs i n e)

once : (xs : List ℕ) → AreApart xs → (i j n : ℕ) → i < j → slice_get xs i ≡ Some n → slice_get xs j ≢ Some n
once [] h i j n less e f = none_some n e
once (x ∷ xs) h i zero n less e f = absurd (omega (arith, less))
once (x ∷ xs) h zero (suc j) n less e f =
    both_ways (is_in xs x) h.0 (ap (is_in xs) (same_some x n e) ∙ at_is_in xs j n f)
once (x ∷ xs) h (suc i) (suc j) n less e f = once xs h.1 i j n (omega (arith, less)) e f

pub are_numbers : (xs : List ℕ) → is_bad_list xs ≡ false → AreNumbers xs
are_numbers xs e =
    let good = good_numbers xs e in
    record { private = λ n is. in_all IsPrivate xs good.0 n is; once = once xs good.1 }

-- Why a list is bad.
one_of_four : (a b c d : Bool) → (a || b || c || d) ≡ true → ((a ≡ true) ⊎ (b ≡ true)) ⊎ ((c ≡ true) ⊎ (d ≡ true))
one_of_four true b c d e = inl (inl refl)
one_of_four false true c d e = inl (inr refl)
one_of_four false false true d e = inr (inl refl)
one_of_four false false false d e = inr (inr e)

place_of : (xs : List ℕ) (n : ℕ) → is_in xs n ≡ true → (j : ℕ) × (slice_get xs j ≡ Some n)
place_of [] n e = absurd (true≢false (sym e))
place_of (x ∷ xs) n e =
    elim (or_cases (x == n) (is_in xs n) e) [
      | inl is ↦ (zero, ap Some (eqb-true x n is))
      | inr later ↦ let (j, at) = place_of xs n later in (suc j, at)
    ]

further : (x : ℕ) (xs : List ℕ) → HasBadNumber xs → HasBadNumber (x ∷ xs)
further x xs (inl (n, is, why)) = inl (n, or_right (x == n) (is_in xs n) is, why)
further x xs (inr (i, j, n, less, at, again)) = inr (suc i, suc j, n, omega (arith, less), at, again)

pub bad_number : (xs : List ℕ) → is_bad_list xs ≡ true → HasBadNumber xs
bad_number [] e = absurd (true≢false (sym e))
bad_number (x ∷ xs) e =
    let first : is_in (x ∷ xs) x ≡ true = or_left (x == x) (is_in xs x) (eq-eqb x x refl) in
    elim (one_of_four (x == 0) (nat_lt 127 x) (is_in xs x) (is_bad_list xs) e) [
      | inl outside ↦ elim outside [
        | inl is ↦ inl (x, first, inl (eqb-true x 0 is))
        | inr is ↦ inl (x, first, inr (ltb-true 127 x is))
      ]
      | inr within ↦ elim within [
        | inl again ↦ let (j, at) = place_of xs x again in inr (zero, suc j, x, omega arith, refl, at)
        | inr later ↦ further x xs (bad_number xs later)
      ]
    ]

-- a test that no number of the list passes
pub none_any : (f : ℕ → Bool) (xs : List ℕ) (n : ℕ) → list_any f xs ≡ false → is_in xs n ≡ true → f n ≡ false
none_any f [] n e is_in_it = absurd (true≢false (sym is_in_it))
none_any f (x ∷ xs) n e is_in_it =
    let parts = or_parts (f x) (list_any f xs) e in
    elim (or_cases (x == n) (is_in xs n) is_in_it) [
      | inl is ↦ sym (ap f (eqb-true x n is)) ∙ parts.0
      | inr later ↦ none_any f xs n parts.1 later
    ]

-- a list that can be read
pub read : (o : Option (List ℕ)) → is_none o ≡ false → o ≡ Some (unwrap_or o [])
read None e = absurd (true≢false e)
read (Some xs) e = refl
