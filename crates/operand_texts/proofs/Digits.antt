-- The number that digits spell, digit by digit.
use Rattle.std.proofs.Common.{◌≡◌, ℕ, ◌+◌, ◌*◌, ◌^◌, ◌<◌, ◌≤◌, Bool, true, false, ◌&&◌, List, length, take, get_or, Some, None, ◌==◌, nat_lt, nat_le, if◌then◌else◌, arith, refl}
use Rattle.std.specs.List.{list_all}
use Rattle.std.specs.Char.{digit_value, is_digit}
use Rattle.std.specs.Str.Parse.{digits_value}
use Rattle.std.proofs.lemmas.Int.Digits.{digits_value_more}
use Rattle.std.proofs.lemmas.Str.Parse.{digits_value-take-le}
use Rattle.std.proofs.lemmas.Bool.Decides.{nat_tests}
use Rattle.operand_texts.specs.Values.{digits_number}

none_if : (b : Bool) (n : ℕ) → 2 ^ 32 ≤ n → (if b && nat_lt n (2 ^ 32) then Some n else None) ≡ None
none_if b n h = elim b as (λ v. (if v && nat_lt n (2 ^ 32) then Some n else None) ≡ None) [ true ↦ grind (arith, nat_tests) | false ↦ refl ]

-- another digit, and the number has more than 32 bits
pub too_great : (radix most : ℕ) (text : List ℕ) (i : ℕ) → 1 ≤ radix → i < length text
    → 2 ^ 32 ≤ digits_value radix (take i text) * radix + digit_value (get_or text i 0) → digits_number radix most text ≡ None
too_great radix most text i r lt h =
    let more : digits_value radix (take (i + 1) text) ≡ digits_value radix (take i text) * radix + digit_value (get_or text i 0) = digits_value_more radix text i lt in
    let le : digits_value radix (take (i + 1) text) ≤ digits_value radix text = digits_value-take-le radix text (i + 1) r in
    none_if _ (digits_value radix text) (omega (arith, more, le, h))

-- all digits, and the number has 32 bits
pub spelled : (radix most : ℕ) (text : List ℕ) (number : ℕ) → number ≡ digits_value radix text → list_all (λ c. is_digit c radix) text ≡ true
    → number < 2 ^ 32 → false ≡ (length text == 0) → length text ≤ most → Some number ≡ digits_number radix most text
spelled radix most text number e all small some h =
    let one : nat_le 1 (length text) ≡ true = grind (arith, nat_tests, some) in
    let few : nat_le (length text) most ≡ true = grind (arith, nat_tests, h) in
    let below : nat_lt (digits_value radix text) (2 ^ 32) ≡ true = rw (← e) (grind (arith, nat_tests, small)) in
    rw (one, few, all, below, ← e) refl
