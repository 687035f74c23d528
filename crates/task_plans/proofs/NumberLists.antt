-- Lists of subpool numbers, looked at from the last one on.
use Rattle.std.proofs.Common.{◌≡◌, ◌≢◌, ℕ, zero, suc, ◌+◌, ◌-◌, ◌<◌, ◌≤◌, Bool, true, false, ◌||◌, ◌==◌, nat_lt, List, [], ◌∷◌, ◌++◌, length, length-append, drop, get_or, set, sym, ◌∙◌, ap, arith, inl, inr}
use Rattle.std.specs.List.{All, AllByRecursion}
use Rattle.std.proofs.Math.Seq.{drop-cons}
use Rattle.std.proofs.lemmas.Bool.{or_left, or_right, eqb-true, eq-eqb, lt-ltb, ltb-true, cases_eq, false_from_ne_true}
use Rattle.std.proofs.lemmas.List.{drop_all, get_or-set_other, get_or-set_same}
use Rattle.vsm_model.specs.Search.{is_in}
use Rattle.vsm_model.specs.Passing.{is_bad_list}
use Rattle.service_laws.proofs.Numbers.{IsPrivate, good_numbers}
use Rattle.service_laws.proofs.TaskTables.{left_part, right_part}

-- what is bad after a place is bad
bad_behind : (k : ℕ) (xs : List ℕ) → is_bad_list (drop k xs) ≡ true → is_bad_list xs ≡ true
bad_behind zero xs e = e
bad_behind (suc k) [] e = e
bad_behind (suc k) (x ∷ xs) e = or_right (x == 0 || nat_lt 127 x || is_in xs x) (is_bad_list xs) (bad_behind k xs e)

none_of_four : (a b c d : Bool) → a ≡ false → b ≡ false → c ≡ false → d ≡ false → (a || b || c || d) ≡ false
none_of_four true b c d p q r s = p
none_of_four false true c d p q r s = q
none_of_four false false true d p q r s = r
none_of_four false false false d p q r s = s

-- The number that is looked at after k others, from the last one on, with those that follow it.
module _ (given shared : List ℕ) (m n k number : ℕ) (first : m ≡ length given) (second : n ≡ length shared) (below : k < m + n)
    (is : number ≡ get_or (given ++ shared) (m + n - 1 - k) 0) where
  abbrev both : List ℕ
  both = given ++ shared

  abbrev behind : List ℕ
  behind = drop (length both - k) both

  long : length both ≡ m + n
  long = length-append given shared ∙ omega (arith, first, second)

  from_here : drop (length both - (k + 1)) both ≡ number ∷ behind
  from_here =
      let within : length both - (k + 1) < length both = omega (arith, long, below) in
      let next : suc (length both - (k + 1)) ≡ length both - k = omega (arith, long, below) in
      let place : length both - (k + 1) ≡ m + n - 1 - k = omega (arith, long, below) in
      drop-cons both (length both - (k + 1)) 0 within
      ∙ (λ i. get_or both (place i) 0 ∷ drop (next i) both) ∙ ap (λ (x : ℕ). x ∷ behind) (sym is)

  bad_here : is_bad_list (number ∷ behind) ≡ true → true ≡ is_bad_list both
  bad_here e = sym (bad_behind (length both - (k + 1)) both (ap is_bad_list from_here ∙ e))

  some_bad : number == 0 || nat_lt 127 number || is_in behind number ≡ true → true ≡ is_bad_list both
  some_bad e = bad_here (or_left (number == 0 || nat_lt 127 number || is_in behind number) (is_bad_list behind) e)

  pub bad_zero : number ≡ 0 → true ≡ is_bad_list both
  bad_zero none = some_bad (or_left (number == 0 || nat_lt 127 number) (is_in behind number) (or_left (number == 0) (nat_lt 127 number) (eq-eqb number 0 none)))

  pub bad_high : 127 < number → true ≡ is_bad_list both
  bad_high high = some_bad (or_left (number == 0 || nat_lt 127 number) (is_in behind number) (or_right (number == 0) (nat_lt 127 number) (lt-ltb 127 number high)))

  pub bad_again : is_in behind number ≡ true → true ≡ is_bad_list both
  bad_again again = some_bad (or_right (number == 0 || nat_lt 127 number) (is_in behind number) again)

  pub fine_here : number ≢ 0 → number ≤ 127 → is_in behind number ≡ false → is_bad_list behind ≡ false → is_bad_list (drop (length both - (k + 1)) both) ≡ false
  fine_here some low once fine =
      ap is_bad_list from_here
      ∙ none_of_four (number == 0) (nat_lt 127 number) (is_in behind number) (is_bad_list behind)
      (false_from_ne_true (number == 0) (λ e. some (eqb-true number 0 e)))
      (false_from_ne_true (nat_lt 127 number) (λ e. absurd (omega (arith, low, ltb-true 127 number e))))
      once fine

  -- those that were seen are those that follow, and the number is seen now
  pub seen_here : (seen : List Bool) → number < length seen → ((n : ℕ) → n < 128 → get_or seen n false ≡ is_in behind n) →
      (n : ℕ) → n < 128 → get_or (set seen number true) n false ≡ is_in (drop (length both - (k + 1)) both) n
  seen_here seen small are n low =
      elim (cases_eq n number) [
        | inl same ↦
            ap (λ (k : ℕ). get_or (set seen number true) k false) same ∙ get_or-set_same seen number true false small
            ∙ sym (or_left (number == n) (is_in behind n) (eq-eqb number n (sym same))) ∙ ap (λ (ys : List ℕ). is_in ys n) (sym from_here)
        | inr other ↦
            get_or-set_other seen number n true false other ∙ are n low
            ∙ sym (ap (λ b. b || is_in behind n) (false_from_ne_true (number == n) (λ e. other (sym (eqb-true number n e)))))
            ∙ ap (λ (ys : List ℕ). is_in ys n) (sym from_here)
      ]

-- no number follows the last one
pub fine_behind_all : (xs : List ℕ) (n : ℕ) → length xs ≤ n → is_bad_list (drop n xs) ≡ false
fine_behind_all xs n past = ap is_bad_list (drop_all n xs past)

pub none_behind_all : (xs : List ℕ) (n k : ℕ) → length xs ≤ n → is_in (drop n xs) k ≡ false
none_behind_all xs n k past = ap (λ (ys : List ℕ). is_in ys k) (drop_all n xs past)

-- numbers that aren't bad are of private storage
private : (xs : List ℕ) → AllByRecursion IsPrivate xs → All (λ n. n ≤ 127) xs
private [] h k d below = absurd (omega (arith, below))
private (x ∷ xs) h zero d below = h.0.1
private (x ∷ xs) h (suc k) d below = private xs h.1 k d (omega (arith, below))

pub first_private : (xs ys : List ℕ) → is_bad_list (xs ++ ys) ≡ false → All (λ n. n ≤ 127) xs
first_private xs ys fine = private xs (left_part IsPrivate xs ys (good_numbers (xs ++ ys) fine).0)

pub second_private : (xs ys : List ℕ) → is_bad_list (xs ++ ys) ≡ false → All (λ n. n ≤ 127) ys
second_private xs ys fine = private ys (right_part IsPrivate xs ys (good_numbers (xs ++ ys) fine).0)
