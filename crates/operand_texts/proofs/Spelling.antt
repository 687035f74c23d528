-- The values that can be spelled are those that are valid.
use Rattle.std.proofs.Common.{◌≡◌, ℕ, ◌+◌, ◌-◌, ◌^◌, ◌<◌, ◌≤◌, ◌↔◌, ◌==◌, Bool, true, false, ◌&&◌, List, [], ◌∷◌, length, map, Some, None, nat_lt, nat_le, if◌then◌else◌, slice_index, slice_range, decimal, arith, sym, refl, ap, ◌∙◌, subst, inl, inr}
use Rattle.std.specs.Option.{option_map}
use Rattle.std.specs.List.{list_all}
use Rattle.std.specs.Char.{digit_value, is_digit, to_ascii_uppercase}
use Rattle.std.specs.Str.Parse.{digits_value, AllDigits}
use Rattle.std.proofs.lemmas.Fmt.{decimal_is_IsNumeral, length-decimal-le}
use Rattle.std.proofs.lemmas.Str.Parse.{digit_from_value}
use Rattle.std.proofs.lemmas.Bool.Decides.{nat_tests}
use Rattle.std.proofs.lemmas.Bool.{cases_lt}
use Rattle.std.proofs.lemmas.List.{length-map}
use Rattle.std.proofs.lemmas.Slice.Eq.{bytes_eq-Decides}
use Rattle.operand_texts.specs.Words.{is_letter, is_name_byte, is_name, is_word}
use Rattle.operand_texts.specs.Values.{digits_number, is_quoted, number_of, register_number, without_r, is_enclosed, enclosed, register_of, or_other, Spells, target_register, target_of, SpellsPlace}
use Rattle.operand_texts.specs.Written.{Written, number, named, register, Target, in_name, in_register, is_upper_name, IsValue, IsTarget}
use Rattle.operand_texts.proofs.Digits.{spelled}

-- a number that digits spell has 32 bits
digits_below : (radix most : ℕ) (text : List ℕ) (n : ℕ) → digits_number radix most text ≡ Some n → n < 2 ^ 32
digits_below radix most text n h = below _ (digits_value radix text) n h
  where
    below : (b : Bool) (v n : ℕ) → (if b && nat_lt v (2 ^ 32) then Some v else None) ≡ Some n → n < 2 ^ 32
    below true v n h = grind (arith, nat_tests)
    below false v n h = cc

pub below : (text : List ℕ) (n : ℕ) → number_of text ≡ Some n → n < 2 ^ 32
below text n h =
    elim (is_quoted 88 text) as (λ q. (if q then digits_number 16 8 (slice_range text 2 (length text - 1))
    else if is_quoted 66 text then digits_number 2 32 (slice_range text 2 (length text - 1)) else digits_number 10 10 text) ≡ Some n → n < 2 ^ 32) [
      | true ↦ λ k. digits_below 16 8 (slice_range text 2 (length text - 1)) n k
      | false ↦ λ k. elim (is_quoted 66 text) as (λ q. (if q then digits_number 2 32 (slice_range text 2 (length text - 1)) else digits_number 10 10 text) ≡ Some n → n < 2 ^ 32) [
        | true ↦ λ j. digits_below 2 32 (slice_range text 2 (length text - 1)) n j
        | false ↦ λ j. digits_below 10 10 text n j
      ] k
    ] h

-- a digit is no letter
no_letter : (c letter : ℕ) → digit_value c < 10 → 60 < letter → (to_ascii_uppercase c == letter) ≡ false
no_letter c letter h far =
    let r = digit_from_value c h in
    grind (arith, nat_tests, r)

not_quoted : (text : List ℕ) (letter : ℕ) → AllDigits 10 text → 60 < letter → is_quoted letter text ≡ false
not_quoted [] letter h far = refl
not_quoted (c ∷ cs) letter h far = rw (no_letter c letter h.0 far) (and_false _ _ _)
  where
    and_false : (a b d : Bool) → (a && false && b && d) ≡ false
    and_false true b d = refl
    and_false false b d = refl

all_digits : (text : List ℕ) → AllDigits 10 text → list_all (λ c. is_digit c 10) text ≡ true
all_digits [] h = refl
all_digits (c ∷ cs) h =
    let here : is_digit c 10 ≡ true = (let k = h.0 in grind (arith, nat_tests, k)) in
    rw (here, all_digits cs h.1) refl

nonempty : (text : List ℕ) → 0 < length text → false ≡ (length text == 0)
nonempty text h = grind (arith, nat_tests)

-- a number of 32 bits is spelled in decimal
pub written : (n : ℕ) → n < 2 ^ 32 → number_of (decimal n) ≡ Some n
written n h =
    let d = decimal_is_IsNumeral n (omega arith) in
    rw (not_quoted (decimal n) 88 d.0.1 (omega arith), not_quoted (decimal n) 66 d.0.1 (omega arith))
    (sym (spelled 10 10 (decimal n) n (sym d.1) (all_digits (decimal n) d.0.1) h (nonempty (decimal n) d.0.0)
    (length-decimal-le 10 n (omega arith) (omega arith) (omega arith))))

-- upper case
both : (x y : Bool) → (x && y) ≡ true → (x ≡ true) × (y ≡ true)
both true y h = (refl, h)
both false y h = cc

upper_twice : (c : ℕ) → to_ascii_uppercase (to_ascii_uppercase c) ≡ to_ascii_uppercase c
upper_twice c = grind (arith, nat_tests)

all_twice : (xs : List ℕ) → map to_ascii_uppercase (map to_ascii_uppercase xs) ≡ map to_ascii_uppercase xs
all_twice [] = refl
all_twice (x ∷ xs) = rw (upper_twice x, all_twice xs) refl

letter_upper : (c : ℕ) → is_letter c ≡ true → is_letter (to_ascii_uppercase c) ≡ true
letter_upper c h = grind (arith, nat_tests)

byte_upper : (c : ℕ) → is_name_byte c ≡ true → is_name_byte (to_ascii_uppercase c) ≡ true
byte_upper c h = grind (arith, nat_tests)

bytes_upper : (xs : List ℕ) → list_all is_name_byte xs ≡ true → list_all is_name_byte (map to_ascii_uppercase xs) ≡ true
bytes_upper [] h = refl
bytes_upper (x ∷ xs) h = let b = both (is_name_byte x) (list_all is_name_byte xs) h in rw (byte_upper x b.0, bytes_upper xs b.1) refl

-- what a name has: its length, its first letter, and its bytes
record NameParts (text : List ℕ) : Type 0 where
  long : (nat_le 1 (length text) && nat_le (length text) 63) ≡ true
  first : is_letter (slice_index text 0) ≡ true
  all : list_all is_name_byte text ≡ true

name_parts : (text : List ℕ) → is_name text ≡ true → NameParts text
name_parts text h =
    let d = both (nat_le 1 (length text) && nat_le (length text) 63 && is_letter (slice_index text 0)) (list_all is_name_byte text) h in
    let c = both (nat_le 1 (length text) && nat_le (length text) 63) (is_letter (slice_index text 0)) d.0 in
    record { long = c.0; first = c.1; all = d.1 }

all_true : (a b c : Bool) → a ≡ true → b ≡ true → c ≡ true → (a && b && c) ≡ true
all_true true true true h k l = refl
all_true true true false h k l = l
all_true true false c h k l = k
all_true false b c h k l = h

name_upper : (text : List ℕ) → is_name text ≡ true → is_name (map to_ascii_uppercase text) ≡ true
name_upper [] h = cc
name_upper (x ∷ xs) h =
    let p = name_parts (x ∷ xs) h in
    let same : length (map to_ascii_uppercase (x ∷ xs)) ≡ length (x ∷ xs) = length-map (x ∷ xs) to_ascii_uppercase in
    let long : (nat_le 1 (length (map to_ascii_uppercase (x ∷ xs))) && nat_le (length (map to_ascii_uppercase (x ∷ xs))) 63) ≡ true = rw same p.long in
    all_true _ _ _ long (letter_upper x p.first) (bytes_upper (x ∷ xs) p.all)

pub upper_named : (text : List ℕ) → is_name text ≡ true → is_upper_name (map to_ascii_uppercase text) ≡ true
upper_named text h =
    rw (name_upper text h) ((bytes_eq-Decides (map to_ascii_uppercase (map to_ascii_uppercase text)) (map to_ascii_uppercase text)).1 (all_twice text))

-- a register's number is below 16
register_small : (n d e r : ℕ)
    → (if (n == 1) && nat_le 48 d && nat_le d 57 then Some (d - 48)
    else if (n == 2) && (d == 49) && nat_le 48 e && nat_le e 53 then Some (e - 38) else None) ≡ Some r → r < 16
register_small n d e r h = grind (arith, nat_tests, h)

register_below : (text : List ℕ) (r : ℕ) → register_of text ≡ Some r → r < 16
register_below text r h =
    elim (is_enclosed text) as (λ b. (if b then register_number (without_r (enclosed text)) else None) ≡ Some r → r < 16) [
      | true ↦ λ k. register_small (length (without_r (enclosed text))) (slice_index (without_r (enclosed text)) 0) (slice_index (without_r (enclosed text)) 1) r k
      | false ↦ λ k. cc
    ] h

-- a value that is spelled is valid
pub spelled_is_valid : (text : List ℕ) (value : Written) → Spells text value → IsValue value
spelled_is_valid text value h =
    elim (number_of text) as (λ o. number_of text ≡ o → or_other o text ≡ Some value → IsValue value) [
      | Some n ↦ λ e k. let same : number n ≡ value = cc in subst IsValue same (below text n e)
      | None ↦ λ e k. elim (is_name text) as (λ b. is_name text ≡ b → (if b then Some (named (map to_ascii_uppercase text)) else option_map register (register_of text)) ≡ Some value → IsValue value) [
        | true ↦ λ m j. let same : named (map to_ascii_uppercase text) ≡ value = cc in subst IsValue same (upper_named text m)
        | false ↦ λ m j. elim (register_of text) as (λ o. register_of text ≡ o → option_map register o ≡ Some value → IsValue value) [
          | None ↦ λ l i. cc
          | Some r ↦ λ l i. let same : register r ≡ value = cc in subst IsValue same (register_below text r l)
        ] refl j
      ] refl k
    ] refl h

-- a name is no number
no_digit : (c : ℕ) → is_letter c ≡ true → is_digit c 10 ≡ false
no_digit c h = grind (arith, nat_tests)

no_apostrophe : (c : ℕ) → is_name_byte c ≡ true → (c == 39) ≡ false
no_apostrophe c h = grind (arith, nat_tests)

not_of_letter : (letter : ℕ) (text : List ℕ) → NameParts text → is_quoted letter text ≡ false
not_of_letter letter [] p = refl
not_of_letter letter (x ∷ []) p = refl
not_of_letter letter (x ∷ y ∷ ys) p =
    let bytes = both (is_name_byte x) (list_all is_name_byte (y ∷ ys)) p.all in
    let second = both (is_name_byte y) (list_all is_name_byte ys) bytes.1 in
    rw (no_apostrophe y second.0) (and_none (nat_le 3 (length (x ∷ y ∷ ys)) && (to_ascii_uppercase x == letter)) _)
  where
    and_none : (a d : Bool) → (a && false && d) ≡ false
    and_none true d = refl
    and_none false d = refl

no_number : (text : List ℕ) → is_name text ≡ true → number_of text ≡ None
no_number [] h = cc
no_number (x ∷ xs) h =
    let p = name_parts (x ∷ xs) h in
    rw (not_of_letter 88 (x ∷ xs) p, not_of_letter 66 (x ∷ xs) p, no_digit x p.first) (and_none (nat_le 1 (length (x ∷ xs)) && nat_le (length (x ∷ xs)) 10) _ _)
  where
    and_none : (a d : Bool) (v : ℕ) → (if a && false && d then Some v else None) ≡ None
    and_none true d v = refl
    and_none false d v = refl

-- each name and each register is spelled
pub name_spelled : (name : List ℕ) → is_upper_name name ≡ true → Spells name (named name)
name_spelled name h =
    let b = both (is_name name) (is_word name name) h in
    let same : map to_ascii_uppercase name ≡ name = (bytes_eq-Decides (map to_ascii_uppercase name) name).0 b.1 in
    rw (no_number name b.0, b.0, same) refl

pub low_register : (d : ℕ) → 48 ≤ d → d ≤ 57 → Spells (40 ∷ d ∷ 41 ∷ []) (register (d - 48))
low_register d h k =
    let r : (to_ascii_uppercase d == 82) ≡ false = grind (arith, nat_tests) in
    let least : nat_le 48 d ≡ true = grind (arith, nat_tests) in
    let most : nat_le d 57 ≡ true = grind (arith, nat_tests) in
    rw (r, least, most) refl

pub high_register : (d : ℕ) → 48 ≤ d → d ≤ 53 → Spells (40 ∷ 49 ∷ d ∷ 41 ∷ []) (register (d - 38))
high_register d h k =
    let least : nat_le 48 d ≡ true = grind (arith, nat_tests) in
    let most : nat_le d 53 ≡ true = grind (arith, nat_tests) in
    rw (least, most) refl

register_spelled : (n : ℕ) → n < 16 → (text : List ℕ) × Spells text (register n)
register_spelled n h = elim (cases_lt n 10) [
  | inl low ↦ (let same : n + 48 - 48 ≡ n = omega arith in (40 ∷ (n + 48) ∷ 41 ∷ [], low_register (n + 48) (omega arith) (omega arith) ∙ ap (λ x. Some (register x)) same))
  | inr high ↦ (let same : n + 38 - 38 ≡ n = omega arith in (40 ∷ 49 ∷ (n + 38) ∷ 41 ∷ [], high_register (n + 38) (omega arith) (omega arith) ∙ ap (λ x. Some (register x)) same))
]

pub valid_has_spelling : (value : Written) → IsValue value → (text : List ℕ) × Spells text value
valid_has_spelling (number n) h = (decimal n, rw (written n h) refl)
valid_has_spelling (named name) h = (name, name_spelled name h)
valid_has_spelling (register n) h = register_spelled n h

pub valid_is_spelled : (value : Written) → IsValue value ↔ ((text : List ℕ) × Spells text value)
valid_is_spelled value = (valid_has_spelling value, λ s. spelled_is_valid s.0 value s.1)

-- a place that is spelled is valid
spelled_register : (n : ℕ) (target : Target) → target_register (Some n) ≡ Some target → IsTarget target
spelled_register n target h =
    elim (nat_le 1 n && nat_le n 12) as (λ b. (nat_le 1 n && nat_le n 12) ≡ b → (if b then Some (in_register n) else None) ≡ Some target → IsTarget target) [
      | true ↦ λ e k. (let same : in_register n ≡ target = cc in
          let tests = both (nat_le 1 n) (nat_le n 12) e in
          let least : 1 ≤ n = (let t = tests.0 in grind (arith, nat_tests, t)) in
          let most : n ≤ 12 = (let t = tests.1 in grind (arith, nat_tests, t)) in
          subst IsTarget same (least, most))
      | false ↦ λ e k. cc
    ] refl h

pub spelled_place_is_valid : (text : List ℕ) (target : Target) → SpellsPlace text target → IsTarget target
spelled_place_is_valid text target h =
    elim (is_name text) as (λ b. is_name text ≡ b → (if b then Some (in_name (map to_ascii_uppercase text)) else target_register (register_of text)) ≡ Some target → IsTarget target) [
      | true ↦ λ m k. let same : in_name (map to_ascii_uppercase text) ≡ target = cc in subst IsTarget same (upper_named text m)
      | false ↦ λ m k. elim (register_of text) as (λ o. target_register o ≡ Some target → IsTarget target) [
        | None ↦ λ j. cc
        | Some n ↦ λ j. spelled_register n target j
      ] k
    ] refl h

-- each place that is valid is spelled
pub within_places : (n : ℕ) → 1 ≤ n → n ≤ 12 → target_register (Some n) ≡ Some (in_register n)
within_places n h k =
    let least : nat_le 1 n ≡ true = grind (arith, nat_tests) in
    let most : nat_le n 12 ≡ true = grind (arith, nat_tests) in
    rw (least, most) refl

pub low_place : (d : ℕ) → 48 ≤ d → d ≤ 57 → target_of (40 ∷ d ∷ 41 ∷ []) ≡ target_register (Some (d - 48))
low_place d h k =
    let r : (to_ascii_uppercase d == 82) ≡ false = grind (arith, nat_tests) in
    let least : nat_le 48 d ≡ true = grind (arith, nat_tests) in
    let most : nat_le d 57 ≡ true = grind (arith, nat_tests) in
    rw (r, least, most) refl

pub high_place : (d : ℕ) → 48 ≤ d → d ≤ 53 → target_of (40 ∷ 49 ∷ d ∷ 41 ∷ []) ≡ target_register (Some (d - 38))
high_place d h k =
    let least : nat_le 48 d ≡ true = grind (arith, nat_tests) in
    let most : nat_le d 53 ≡ true = grind (arith, nat_tests) in
    rw (least, most) refl

register_place : (n : ℕ) → 1 ≤ n → n ≤ 12 → (text : List ℕ) × SpellsPlace text (in_register n)
register_place n h k = elim (cases_lt n 10) [
  | inl low ↦ (let same : n + 48 - 48 ≡ n = omega arith in (
    40 ∷ (n + 48) ∷ 41 ∷ [],
    low_place (n + 48) (omega arith) (omega arith) ∙ ap (λ x. target_register (Some x)) same ∙ within_places n h k,
  ))
  | inr high ↦ (let same : n + 38 - 38 ≡ n = omega arith in (
    40 ∷ 49 ∷ (n + 38) ∷ 41 ∷ [],
    high_place (n + 38) (omega arith) (omega arith) ∙ ap (λ x. target_register (Some x)) same ∙ within_places n h k,
  ))
]

pub name_place : (name : List ℕ) → is_upper_name name ≡ true → SpellsPlace name (in_name name)
name_place name h =
    let b = both (is_name name) (is_word name name) h in
    let same : map to_ascii_uppercase name ≡ name = (bytes_eq-Decides (map to_ascii_uppercase name) name).0 b.1 in
    rw (b.0, same) refl

valid_place_has_spelling : (target : Target) → IsTarget target → (text : List ℕ) × SpellsPlace text target
valid_place_has_spelling (in_name name) h = (name, name_place name h)
valid_place_has_spelling (in_register n) h = register_place n h.0 h.1

pub valid_place_is_spelled : (target : Target) → IsTarget target ↔ ((text : List ℕ) × SpellsPlace text target)
valid_place_is_spelled target = (valid_place_has_spelling target, λ s. spelled_place_is_valid s.0 target s.1)
