-- A text for each value, place and content that is valid, which can be an operand.
use Rattle.std.proofs.Common.{◌≡◌, ℕ, ◌+◌, ◌-◌, ◌/◌, ◌%◌, ◌^◌, ◌<◌, ◌≤◌, ◌==◌, Bool, true, false, ◌&&◌, List, [], ◌∷◌, ◌++◌, length, Some, nat_le, decimal, arith, refl, ap, ◌∙◌, inl, inr, ◌*◌}
use Rattle.std.specs.List.{AllByRecursion}
use Rattle.std.specs.Option.{option_map}
use Rattle.std.proofs.lemmas.Fmt.{decimal_is_IsNumeral, length-decimal-le}
use Rattle.std.proofs.lemmas.List.{length_push}
use Rattle.std.proofs.lemmas.Bool.{cases_lt}
use Rattle.std.proofs.lemmas.Bool.Decides.{nat_tests}
use Rattle.operand_texts.specs.declared.nesting.Nesting.{Nesting}
use Rattle.operand_texts.specs.Field.{outside}
use Rattle.operand_texts.specs.Words.{is_name, is_word}
use Rattle.operand_texts.specs.Written.{Written, number, named, register, Target, in_name, in_register, Stored, spelled, word, IsValue, IsTarget, IsStored, HasBytes, is_upper_name}
use Rattle.operand_texts.specs.Values.{Spells, SpellsPlace, SpellsContent, target_register}
use Rattle.operand_texts.proofs.Spelling.{written, name_spelled, low_register, high_register, name_place, low_place, high_place, within_places}
use Rattle.operand_texts.proofs.SpelledBytes.{digit, hex_text, text_len, spelled_back, quoted_text, constant_text}
use Rattle.operand_texts.proofs.OperandTexts.{Goes, IsPlain, IsOperand, goes_append, goes_plain, plain_name, plain_digit, plain_digits}

-- outside apostrophes, in this many parentheses
abbrev within : ℕ → Nesting
within d = record { quoted = false; depth = d; overclosed = false }

-- a text with no equals sign that leads back to where it began
pub record IsNeat (text : List ℕ) : Type 0 where
  pub some : 1 ≤ length text
  pub few : length text ≤ 63
  pub goes : (d : ℕ) → Goes (within d) text (within d)
  pub no_equals : AllByRecursion (λ c. (c == 61) ≡ false) text

pub without_equals : (xs : List ℕ) → AllByRecursion IsPlain xs → AllByRecursion (λ c. (c == 61) ≡ false) xs
without_equals [] h = tt
without_equals (x ∷ xs) h = (h.0.equals, without_equals xs h.1)

neat_plain : (text : List ℕ) → 1 ≤ length text → length text ≤ 63 → AllByRecursion IsPlain text → IsNeat text
neat_plain text h k p = record { some = h; few = k; goes = λ d. goes_plain (within d) text p; no_equals = without_equals text p }

-- in parentheses
closes : (d : ℕ) → Goes (within (d + 1)) (41 ∷ []) (within d)
closes d =
    let inside : (d + 1 == 0) ≡ false = grind (arith, nat_tests) in
    let back : d + 1 - 1 ≡ d = omega arith in
    (refl, rw inside refl, refl, λ j. record { quoted = false; depth = back j; overclosed = inside j })

pub goes_enclosed : (d : ℕ) (t : List ℕ) → Goes (within (d + 1)) t (within (d + 1)) → Goes (within d) (40 ∷ (t ++ 41 ∷ [])) (within d)
goes_enclosed d t h = (refl, refl, refl, goes_append (within (d + 1)) (within (d + 1)) (within d) t (41 ∷ []) h (closes d))

equals_append : (xs ys : List ℕ) → AllByRecursion (λ c. (c == 61) ≡ false) xs → AllByRecursion (λ c. (c == 61) ≡ false) ys
    → AllByRecursion (λ c. (c == 61) ≡ false) (xs ++ ys)
equals_append [] ys h k = k
equals_append (x ∷ xs) ys h k = (h.0, equals_append xs ys h.1 k)

neat_enclosed : (t : List ℕ) → length t ≤ 61 → AllByRecursion IsPlain t → IsNeat (40 ∷ (t ++ 41 ∷ []))
neat_enclosed t few p =
    let long : length (t ++ 41 ∷ []) ≡ length t + 1 = length_push t 41 in
    record {
      some = omega (arith, long);
      few = omega (arith, long, few);
      goes = λ d. goes_enclosed d t (goes_plain (within (d + 1)) t p);
      no_equals = (refl, equals_append t (41 ∷ []) (without_equals t p) (refl, tt));
    }

-- values, and how long their texts are at most
abbrev pub width : Written → ℕ
width (number n) = 10
width (named name) = length name
width (register n) = 4

pub record ValueText (value : Written) : Type 0 where
  pub text : List ℕ
  pub size : length text ≤ width value
  pub spells : Spells text value
  pub neat : IsNeat text

number_size : (n : ℕ) → n < 2 ^ 32 → length (decimal n) ≤ 10
number_size n h = length-decimal-le 10 n (omega arith) (omega arith) (omega arith)

pub number_text : (n : ℕ) → n < 2 ^ 32 → IsNeat (decimal n)
number_text n h =
    let d = decimal_is_IsNumeral n (omega arith) in
    let few : length (decimal n) ≤ 10 = number_size n h in
    let some : 0 < length (decimal n) = d.0.0 in
    neat_plain (decimal n) (omega (arith, some)) (omega (arith, few)) (plain_digits (decimal n) d.0.1)

both : (x y : Bool) → (x && y) ≡ true → (x ≡ true) × (y ≡ true)
both true y h = (refl, h)
both false y h = cc

name_text : (name : List ℕ) → is_upper_name name ≡ true → IsNeat name
name_text name h =
    let n : is_name name ≡ true = (both (is_name name) (is_word name name) h).0 in
    let sizes = both (nat_le 1 (length name)) (nat_le (length name) 63) (both _ _ (both _ _ n).0).0 in
    let least : 1 ≤ length name = (let t = sizes.0 in grind (arith, nat_tests, t)) in
    let most : length name ≤ 63 = (let t = sizes.1 in grind (arith, nat_tests, t)) in
    neat_plain name least most (plain_name name n)

low_text : (n : ℕ) → n < 10 → IsNeat (40 ∷ (n + 48) ∷ 41 ∷ [])
low_text n h = neat_enclosed ((n + 48) ∷ []) (omega arith) (plain_digit (n + 48) (omega arith) (omega arith), tt)

high_text : (n : ℕ) → 10 ≤ n → n < 16 → IsNeat (40 ∷ 49 ∷ (n + 38) ∷ 41 ∷ [])
high_text n h k = neat_enclosed (49 ∷ (n + 38) ∷ []) (omega arith) (plain_digit 49 (omega arith) (omega arith), (plain_digit (n + 38) (omega arith) (omega arith), tt))

pub value_text_of : (value : Written) → IsValue value → ValueText value
value_text_of (number n) h = record { text = decimal n; size = number_size n h; spells = rw (written n h) refl; neat = number_text n h }
value_text_of (named name) h = record { text = name; size = omega arith; spells = name_spelled name h; neat = name_text name h }
value_text_of (register n) h = elim (cases_lt n 10) [
  | inl low ↦ (let same : n + 48 - 48 ≡ n = omega arith in
      record { text = 40 ∷ (n + 48) ∷ 41 ∷ []; size = omega arith; spells = low_register (n + 48) (omega arith) (omega arith) ∙ ap (λ x. Some (register x)) same; neat = low_text n low })
  | inr high ↦ (let same : n + 38 - 38 ≡ n = omega arith in
      record { text = 40 ∷ 49 ∷ (n + 38) ∷ 41 ∷ []; size = omega arith; spells = high_register (n + 38) (omega arith) (omega arith) ∙ ap (λ x. Some (register x)) same; neat = high_text n high h })
]

-- places
pub record PlaceText (target : Target) : Type 0 where
  pub text : List ℕ
  pub spells : SpellsPlace text target
  pub neat : IsNeat text

pub place_text_of : (target : Target) → IsTarget target → PlaceText target
place_text_of (in_name name) h = record { text = name; spells = name_place name h; neat = name_text name h }
place_text_of (in_register n) h = elim (cases_lt n 10) [
  | inl low ↦ (let same : n + 48 - 48 ≡ n = omega arith in
      record { text = 40 ∷ (n + 48) ∷ 41 ∷ []; spells = low_place (n + 48) (omega arith) (omega arith) ∙ ap (λ x. target_register (Some x)) same ∙ within_places n h.0 h.1; neat = low_text n low })
  | inr high ↦ (let same : n + 38 - 38 ≡ n = omega arith in
      record { text = 40 ∷ 49 ∷ (n + 38) ∷ 41 ∷ []; spells = high_place (n + 38) (omega arith) (omega arith) ∙ ap (λ x. target_register (Some x)) same ∙ within_places n h.0 h.1; neat = high_text n high (omega (arith, h.1)) })
]

-- contents
abbrev pub content_width : Stored → ℕ
content_width (spelled bytes) = 2 * length bytes + 3
content_width (word value) = 66

pub record ContentText (content : Stored) : Type 0 where
  pub text : List ℕ
  pub size : length text ≤ content_width content
  pub spells : SpellsContent text content
  pub some : 1 ≤ length text
  pub stands : IsOperand text
  pub no_equals : AllByRecursion (λ c. (c == 61) ≡ false) text

plain_hex_digit : (d : ℕ) → d < 16 → IsPlain (digit d)
plain_hex_digit d h = record {
  blank = grind (arith, nat_tests);
  quote = grind (arith, nat_tests);
  opens = grind (arith, nat_tests);
  closes = grind (arith, nat_tests);
  comma = grind (arith, nat_tests);
  equals = grind (arith, nat_tests);
}

plain_hex : (bytes : List ℕ) → AllByRecursion (λ b. b < 2 ^ 8) bytes → AllByRecursion IsPlain (hex_text bytes)
plain_hex [] h = tt
plain_hex (b ∷ bs) h =
    let small : b < 2 ^ 8 = h.0 in
    (plain_hex_digit (b / 16) (omega (arith, small)), (plain_hex_digit (b % 16) (omega arith), plain_hex bs h.1))

in_apostrophes : (t : List ℕ) → AllByRecursion IsPlain t → IsOperand (88 ∷ 39 ∷ (t ++ 39 ∷ []))
in_apostrophes t p =
    let inside : Nesting = record { quoted = true; depth = 0; overclosed = false } in
    (refl, refl, refl, (refl, refl, refl, goes_append inside inside outside t (39 ∷ []) (goes_plain inside t p) (refl, refl, refl, refl)))

pub content_text_of : (content : Stored) → HasBytes content → IsStored content → ContentText content
content_text_of (spelled bytes) b h =
    let p : AllByRecursion IsPlain (hex_text bytes) = plain_hex bytes b in
    record {
      text = 88 ∷ 39 ∷ (hex_text bytes ++ 39 ∷ []);
      size = omega (arith, length_push (hex_text bytes) 39, text_len bytes);
      spells = quoted_text (hex_text bytes) (omega (arith, text_len bytes, h.0)) ∙ ap (λ o. option_map spelled o) (spelled_back bytes b h.0 h.1);
      some = omega arith;
      stands = in_apostrophes (hex_text bytes) p;
      no_equals = (refl, (refl, equals_append (hex_text bytes) (39 ∷ []) (without_equals (hex_text bytes) p) (refl, tt)));
    }
content_text_of (word value) b h =
    let s = value_text_of value h in
    record {
      text = 65 ∷ 40 ∷ (s.text ++ 41 ∷ []);
      size = (let few = s.neat.few in omega (arith, length_push s.text 41, few));
      spells = constant_text s.text ∙ ap (λ o. option_map word o) s.spells;
      some = omega arith;
      stands = (refl, refl, refl, goes_enclosed 0 s.text (s.neat.goes 1));
      no_equals = (refl, (refl, equals_append s.text (41 ∷ []) s.neat.no_equals (refl, tt)));
    }
