-- What a text spells, by what was read of its parts.
use Rattle.std.proofs.Common.{◌≡◌, ℕ, ◌+◌, ◌-◌, ◌*◌, ◌<◌, ◌≤◌, ◌&&◌, Bool, true, false, List, length, get_or, min, slice_range, if◌then◌else◌, Option, Some, None, ap, sym, ◌∙◌, arith}
use Rattle.std.specs.Char.{is_digit, digit_value}
use Rattle.std.proofs.lemmas.Bool.Decides.{nat_tests}
use Rattle.operand_texts.specs.Words.{is_name, is_word}
use Rattle.operand_texts.specs.Written.{is_upper_name}
use Rattle.operand_texts.specs.Values.{digits_number, is_quoted, number_of, register_number, byte_of}

pub pair_spells : (high low first second : ℕ) → first ≡ min (digit_value high) 16 → second ≡ min (digit_value low) 16 → first < 16 → second < 16
    → Some (16 * first + second) ≡ byte_of high low
pair_spells high low first second a b small few =
    let one : is_digit high 16 ≡ true = grind (arith, nat_tests) in
    let two : is_digit low 16 ≡ true = grind (arith, nat_tests) in
    let sum : 16 * first + second ≡ 16 * digit_value high + digit_value low = omega arith in
    ap (λ n. Some n) sum
    ∙ sym (
    ap (λ x. if x && is_digit low 16 then Some (16 * digit_value high + digit_value low) else None) one
    ∙ ap (λ x. if x then Some (16 * digit_value high + digit_value low) else None) two)

pub decimal_number : (text : List ℕ) (n : Option ℕ) → false ≡ is_quoted 88 text → false ≡ is_quoted 66 text → n ≡ digits_number 10 10 text → n ≡ number_of text
decimal_number text n x b d =
    d ∙ ap (λ q. if q then digits_number 2 32 (slice_range text 2 (length text - 1)) else digits_number 10 10 text) b
    ∙ ap (λ q. if q then digits_number 16 8 (slice_range text 2 (length text - 1)) else (if is_quoted 66 text then digits_number 2 32 (slice_range text 2 (length text - 1)) else digits_number 10 10 text)) x

pub upper_name : (name : List ℕ) (w : Bool) → true ≡ is_name name → w ≡ is_word name name → w ≡ is_upper_name name
upper_name name w n e = e ∙ ap (λ b. b && is_word name name) n

pub two_digits : (digits : List ℕ) → length digits ≡ 2 → get_or digits 0 0 ≡ 49 → 48 ≤ get_or digits 1 0 → get_or digits 1 0 ≤ 53
    → Some (get_or digits 1 0 - 48 + 10) ≡ register_number digits
two_digits digits two first least most = grind (arith, nat_tests)
