-- What POKE can store is what can be spelled.
use Rattle.std.proofs.Common.{◌≡◌, ℕ, ◌+◌, ◌-◌, ◌*◌, ◌/◌, ◌%◌, ◌^◌, ◌<◌, ◌≤◌, ◌↔◌, ◌==◌, Bool, true, false, ◌&&◌, List, [], ◌∷◌, ◌++◌, length, take, drop, Some, None, nat_le, if◌then◌else◌, slice_index, slice_range, arith, refl, ap, ◌∙◌, subst}
use Rattle.std.specs.Option.{option_map}
use Rattle.std.specs.List.{AllByRecursion}
use Rattle.std.specs.Char.{digit_value, is_digit}
use Rattle.std.proofs.lemmas.Bool.{eq-eqb}
use Rattle.std.proofs.lemmas.Bool.Decides.{nat_tests}
use Rattle.std.proofs.lemmas.List.{length_push, get_or_at, take-append-le, take_all}
use Rattle.operand_texts.specs.Values.{is_quoted, is_enclosed, enclosed, value_of, byte_of, onto_bytes, hex_bytes, spelled_bytes, is_address_constant, word_of, content_of, SpellsContent}
use Rattle.operand_texts.specs.Written.{Written, Stored, spelled, word, IsValue, IsStored, HasBytes}
use Rattle.operand_texts.proofs.Spelling.{spelled_is_valid, valid_has_spelling}

both : (x y : Bool) → (x && y) ≡ true → (x ≡ true) × (y ≡ true)
both true y h = (refl, h)
both false y h = cc

-- the digits of bytes
abbrev pub digit : ℕ → ℕ
digit d = if nat_le d 9 then d + 48 else d + 55

abbrev pub hex_text : List ℕ → List ℕ
hex_text [] = []
hex_text (b ∷ bs) = digit (b / 16) ∷ digit (b % 16) ∷ hex_text bs

digit_is : (d : ℕ) → d < 16 → is_digit (digit d) 16 ≡ true
digit_is d h = grind (arith, nat_tests)

digit_has : (d : ℕ) → d < 16 → digit_value (digit d) ≡ d
digit_has d h = grind (arith, nat_tests)

byte_back : (b : ℕ) → b < 2 ^ 8 → byte_of (digit (b / 16)) (digit (b % 16)) ≡ Some b
byte_back b h =
    let high : b / 16 < 16 = omega arith in
    let low : b % 16 < 16 = omega arith in
    let same : 16 * (b / 16) + b % 16 ≡ b = omega arith in
    rw (digit_is (b / 16) high, digit_is (b % 16) low, digit_has (b / 16) high, digit_has (b % 16) low) (ap (λ x. Some x) same)

bytes_back : (bytes : List ℕ) → AllByRecursion (λ b. b < 2 ^ 8) bytes → hex_bytes (hex_text bytes) ≡ Some bytes
bytes_back [] h = refl
bytes_back (b ∷ bs) h = rw (byte_back b h.0, bytes_back bs h.1) refl

pub text_len : (bytes : List ℕ) → length (hex_text bytes) ≡ 2 * length bytes
text_len [] = refl
text_len (b ∷ bs) = let rest = text_len bs in omega (arith, rest)

pub spelled_back : (bytes : List ℕ) → AllByRecursion (λ b. b < 2 ^ 8) bytes → 1 ≤ length bytes → length bytes ≤ 256
    → spelled_bytes (hex_text bytes) ≡ Some bytes
spelled_back bytes h some few =
    let len = text_len bytes in
    let least : nat_le 2 (length (hex_text bytes)) ≡ true = grind (arith, nat_tests, len, some) in
    let most : nat_le (length (hex_text bytes)) 512 ≡ true = grind (arith, nat_tests, len, few) in
    let even : (length (hex_text bytes) % 2 == 0) ≡ true = eq-eqb _ _ (omega (arith, len)) in
    rw (least, most, even, bytes_back bytes h) refl

-- the last byte, and what precedes it
pub last_is : (xs : List ℕ) (z : ℕ) → slice_index (xs ++ z ∷ []) (length (xs ++ z ∷ []) - 1) ≡ z
last_is xs z = get_or_at xs z [] 0 (length (xs ++ z ∷ []) - 1) (omega (arith, length_push xs z))

pub front_is : (xs : List ℕ) (z n : ℕ) → n ≡ length xs → take n (xs ++ z ∷ []) ≡ xs
front_is xs z n e = take-append-le n xs (z ∷ []) (omega (arith, e)) ∙ take_all n xs (omega (arith, e))

pub all_both : (a b c : Bool) → a ≡ true → b ≡ true → c ≡ true → (a && b && c) ≡ true
all_both true true true h k l = refl
all_both true true false h k l = l
all_both true false c h k l = k
all_both false b c h k l = h

all_four : (a b c d : Bool) → a ≡ true → b ≡ true → c ≡ true → d ≡ true → (a && b && c && d) ≡ true
all_four true true true true h k l m = refl
all_four true true true false h k l m = m
all_four true true false d h k l m = l
all_four true false c d h k l m = k
all_four false b c d h k l m = h

pub quoted_text : (t : List ℕ) → 1 ≤ length t → content_of (88 ∷ 39 ∷ (t ++ 39 ∷ [])) ≡ option_map spelled (spelled_bytes t)
quoted_text t h =
    let len = length_push t 39 in
    let long : nat_le 3 (length (88 ∷ 39 ∷ (t ++ 39 ∷ []))) ≡ true = grind (arith, nat_tests, len) in
    let last : slice_index (88 ∷ 39 ∷ (t ++ 39 ∷ [])) (length (88 ∷ 39 ∷ (t ++ 39 ∷ [])) - 1) ≡ 39 = last_is (88 ∷ 39 ∷ t) 39 in
    let quoted : is_quoted 88 (88 ∷ 39 ∷ (t ++ 39 ∷ [])) ≡ true = all_four _ _ _ _ long refl refl (ap (λ x. x == 39) last) in
    let inside : slice_range (88 ∷ 39 ∷ (t ++ 39 ∷ [])) 2 (length (88 ∷ 39 ∷ (t ++ 39 ∷ [])) - 1) ≡ t = front_is t 39 _ (omega (arith, len)) in
    rw (quoted, inside) refl

and_none : (a c d : Bool) → (a && false && c && d) ≡ false
and_none true c d = refl
and_none false c d = refl

pub constant_text : (t : List ℕ) → content_of (65 ∷ 40 ∷ (t ++ 41 ∷ [])) ≡ option_map word (value_of t)
constant_text t =
    let len = length_push t 41 in
    let plain : is_quoted 88 (65 ∷ 40 ∷ (t ++ 41 ∷ [])) ≡ false = and_none _ _ _ in
    let some : nat_le 1 (length (65 ∷ 40 ∷ (t ++ 41 ∷ []))) ≡ true = grind (arith, nat_tests, len) in
    let long : nat_le 2 (length (40 ∷ (t ++ 41 ∷ []))) ≡ true = grind (arith, nat_tests, len) in
    let last : slice_index (40 ∷ (t ++ 41 ∷ [])) (length (40 ∷ (t ++ 41 ∷ [])) - 1) ≡ 41 = last_is (40 ∷ t) 41 in
    let closed : is_enclosed (40 ∷ (t ++ 41 ∷ [])) ≡ true = all_both _ _ _ long refl (ap (λ x. x == 41) last) in
    let constant : is_address_constant (65 ∷ 40 ∷ (t ++ 41 ∷ [])) ≡ true = all_both _ _ _ some refl closed in
    let inside : enclosed (40 ∷ (t ++ 41 ∷ [])) ≡ t = front_is t 41 _ (omega (arith, len)) in
    rw (plain, constant, inside) refl

content_has_spelling : (content : Stored) → HasBytes content → IsStored content → (text : List ℕ) × SpellsContent text content
content_has_spelling (spelled bytes) b h = (
  88 ∷ 39 ∷ (hex_text bytes ++ 39 ∷ []),
  quoted_text (hex_text bytes) (omega (arith, text_len bytes, h.0)) ∙ ap (λ o. option_map spelled o) (spelled_back bytes b h.0 h.1),
)
content_has_spelling (word value) b h =
    let s = valid_has_spelling value h in (65 ∷ 40 ∷ (s.0 ++ 41 ∷ []), constant_text s.0 ∙ ap (λ o. option_map word o) s.1)

-- bytes that are spelled are as many as there are pairs
hex_len : (t bytes : List ℕ) → hex_bytes t ≡ Some bytes → length t ≡ 2 * length bytes
hex_len [] bytes h = let same : [] ≡ bytes = cc in ap (λ (x : List ℕ). 2 * length x) same
hex_len (x ∷ []) bytes h = cc
hex_len (x ∷ y ∷ t) bytes h =
    elim (byte_of x y) as (λ o. onto_bytes o (hex_bytes t) ≡ Some bytes → length (x ∷ y ∷ t) ≡ 2 * length bytes) [
      | None ↦ λ k. cc
      | Some b ↦ λ k. elim (hex_bytes t) as (λ o. hex_bytes t ≡ o → onto_bytes (Some b) o ≡ Some bytes → length (x ∷ y ∷ t) ≡ 2 * length bytes) [
        | None ↦ λ e j. cc
        | Some bs ↦ λ e j. (let same : b ∷ bs ≡ bytes = cc in
            let rest = hex_len t bs e in
            let size : length (b ∷ bs) ≡ length bytes = ap length same in
            omega (arith, rest, size))
      ] refl k
    ] h

spelled_sizes : (digits bytes : List ℕ) → spelled_bytes digits ≡ Some bytes → (1 ≤ length bytes) × (length bytes ≤ 256)
spelled_sizes digits bytes h =
    elim (nat_le 2 (length digits) && nat_le (length digits) 512 && (length digits % 2 == 0)) as (λ t.
    (nat_le 2 (length digits) && nat_le (length digits) 512 && (length digits % 2 == 0)) ≡ t
    → (if t then hex_bytes digits else None) ≡ Some bytes → (1 ≤ length bytes) × (length bytes ≤ 256)) [
      | true ↦ λ e k. (let sizes = both (nat_le 2 (length digits)) (nat_le (length digits) 512) (both (nat_le 2 (length digits) && nat_le (length digits) 512) (length digits % 2 == 0) e).0 in
          let least : 2 ≤ length digits = (let t = sizes.0 in grind (arith, nat_tests, t)) in
          let most : length digits ≤ 512 = (let t = sizes.1 in grind (arith, nat_tests, t)) in
          let len = hex_len digits bytes k in
          (omega (arith, least, len), omega (arith, most, len)))
      | false ↦ λ e k. cc
    ] refl h

word_is_valid : (text : List ℕ) (value : Written) → word_of text ≡ Some value → IsValue value
word_is_valid text value h =
    elim (is_address_constant text) as (λ b. (if b then value_of (enclosed (drop 1 text)) else None) ≡ Some value → IsValue value) [
      | true ↦ λ k. spelled_is_valid (enclosed (drop 1 text)) value k
      | false ↦ λ k. cc
    ] h

pub spelled_content_is_valid : (text : List ℕ) (content : Stored) → SpellsContent text content → IsStored content
spelled_content_is_valid text content h =
    elim (is_quoted 88 text) as (λ b. (if b then option_map spelled (spelled_bytes (slice_range text 2 (length text - 1))) else option_map word (word_of text)) ≡ Some content → IsStored content) [
      | true ↦ λ k. elim (spelled_bytes (slice_range text 2 (length text - 1))) as (λ o. spelled_bytes (slice_range text 2 (length text - 1)) ≡ o → option_map spelled o ≡ Some content → IsStored content) [
        | None ↦ λ e j. cc
        | Some bytes ↦ λ e j. let same : spelled bytes ≡ content = cc in subst IsStored same (spelled_sizes (slice_range text 2 (length text - 1)) bytes e)
      ] refl k
      | false ↦ λ k. elim (word_of text) as (λ o. word_of text ≡ o → option_map word o ≡ Some content → IsStored content) [
        | None ↦ λ e j. cc
        | Some value ↦ λ e j. let same : word value ≡ content = cc in subst IsStored same (word_is_valid text value e)
      ] refl k
    ] h

pub valid_content_is_spelled : (content : Stored) → HasBytes content → IsStored content ↔ ((text : List ℕ) × SpellsContent text content)
valid_content_is_spelled content b = (content_has_spelling content b, λ s. spelled_content_is_valid s.0 content s.1)
