-- A text for each pair of values, which can be an operand and is no value.
use Rattle.std.proofs.Common.{option_and_then, ◌≡◌, ℕ, ◌+◌, ◌-◌, ◌≤◌, ◌==◌, Bool, true, false, ◌&&◌, List, [], ◌∷◌, ◌++◌, length, Some, None, nat_le, nat_lt, ◌^◌, if◌then◌else◌, slice_index, arith, refl, ap, ◌∙◌}
use Rattle.std.specs.Option.{option_map}
use Rattle.std.specs.Char.{to_ascii_uppercase}
use Rattle.std.specs.List.{list_all}
use Rattle.std.specs.Str.Parse.{digits_value}
use Rattle.std.proofs.lemmas.Bool.Decides.{nat_tests}
use Rattle.std.proofs.lemmas.List.{length_push, length-append}
use Rattle.operand_texts.specs.Words.{is_name, is_name_byte}
use Rattle.operand_texts.specs.Written.{Written, IsValue}
use Rattle.operand_texts.specs.Values.{is_quoted, number_of, register_number, without_r, is_enclosed, enclosed, register_of, value_of, parts_of}
use Rattle.operand_texts.proofs.OperandTexts.{IsOperand, goes_append, balanced_joined, split_joined}
use Rattle.operand_texts.proofs.ValueTexts.{value_text_of, goes_enclosed}
use Rattle.operand_texts.proofs.SpelledBytes.{last_is, front_is, all_both}
use Rattle.macro_operands.specs.Lengths.{both_of, pair_of}
use Rattle.macro_operands.specs.Said.{name, register, other_said, value_said}

-- what begins with a parenthesis is neither number nor name
and_none : (a c d : Bool) → (a && false && c && d) ≡ false
and_none true c d = refl
and_none false c d = refl

no_digits : (a b d : Bool) (v : ℕ) → (if a && b && false && d then Some v else None) ≡ None
no_digits true true d v = refl
no_digits true false d v = refl
no_digits false b d v = refl

no_number : (xs : List ℕ) → number_of (40 ∷ xs) ≡ None
no_number xs =
    let quoted : is_quoted 88 (40 ∷ xs) ≡ false = and_none (nat_le 3 (length (40 ∷ xs))) _ _ in
    let size = length (40 ∷ xs) in
    let number = digits_value 10 (40 ∷ xs) in
    rw quoted (no_digits (nat_le 1 size) (nat_le size 10) (nat_lt number (2 ^ 32)) number)

no_letter : (a b d : Bool) → (a && b && false && d) ≡ false
no_letter true true d = refl
no_letter true false d = refl
no_letter false b d = refl

no_name : (xs : List ℕ) → is_name (40 ∷ xs) ≡ false
no_name xs = no_letter (nat_le 1 (length (40 ∷ xs))) (nat_le (length (40 ∷ xs)) 63) (list_all is_name_byte (40 ∷ xs))

-- and what has a comma inside is no register
many_digits : (xs : List ℕ) → 3 ≤ length xs → register_number xs ≡ None
many_digits xs h =
    let one : (length xs == 1) ≡ false = grind (arith, nat_tests) in
    let two : (length xs == 2) ≡ false = grind (arith, nat_tests) in
    rw (one, two) refl

comma_first : (ys : List ℕ) → 1 ≤ length ys → register_number (44 ∷ ys) ≡ None
comma_first [] h = absurd (omega (arith, h))
comma_first (y ∷ []) h = refl
comma_first (y ∷ z ∷ ys) h = many_digits (44 ∷ y ∷ z ∷ ys) (omega arith)

without_first : (x : ℕ) (xs : List ℕ) → without_r (x ∷ xs) ≡ (if to_ascii_uppercase x == 82 then xs else x ∷ xs)
without_first x xs =
    let some : nat_le 1 (length (x ∷ xs)) ≡ true = grind (arith, nat_tests) in
    ap (λ b. if b && (to_ascii_uppercase x == 82) then xs else x ∷ xs) some

one_of : (b : Bool) (xs ys : List ℕ) → register_number xs ≡ None → register_number ys ≡ None → register_number (if b then xs else ys) ≡ None
one_of true xs ys h k = h
one_of false xs ys h k = k

comma_inside : (xs ys : List ℕ) → 1 ≤ length xs → 1 ≤ length ys → register_number (without_r (xs ++ 44 ∷ ys)) ≡ None
comma_inside [] ys h k = absurd (omega (arith, h))
comma_inside (x ∷ []) ys h k =
    ap register_number (without_first x (44 ∷ ys))
    ∙ one_of (to_ascii_uppercase x == 82) (44 ∷ ys) (x ∷ 44 ∷ ys) (comma_first ys k) (many_digits (x ∷ 44 ∷ ys) (omega (arith, k)))
comma_inside (x ∷ z ∷ xs) ys h k =
    let long : length (xs ++ 44 ∷ ys) ≡ length xs + length (44 ∷ ys) = length-append xs (44 ∷ ys) in
    ap register_number (without_first x (z ∷ (xs ++ 44 ∷ ys)))
    ∙ one_of (to_ascii_uppercase x == 82) (z ∷ (xs ++ 44 ∷ ys)) (x ∷ z ∷ (xs ++ 44 ∷ ys)) (many_digits (z ∷ (xs ++ 44 ∷ ys)) (omega (arith, k, long)))
    (many_digits (x ∷ z ∷ (xs ++ 44 ∷ ys)) (omega (arith, k, long)))

-- a text in parentheses
closed : (t : List ℕ) → is_enclosed (40 ∷ (t ++ 41 ∷ [])) ≡ true
closed t =
    let len = length_push t 41 in
    let long : nat_le 2 (length (40 ∷ (t ++ 41 ∷ []))) ≡ true = grind (arith, nat_tests, len) in
    let last : slice_index (40 ∷ (t ++ 41 ∷ [])) (length (40 ∷ (t ++ 41 ∷ [])) - 1) ≡ 41 = last_is (40 ∷ t) 41 in
    all_both _ _ _ long refl (ap (λ x. x == 41) last)

inside : (t : List ℕ) → enclosed (40 ∷ (t ++ 41 ∷ [])) ≡ t
inside t = let len = length_push t 41 in front_is t 41 _ (omega (arith, len))

no_value : (xs ys : List ℕ) → 1 ≤ length xs → 1 ≤ length ys → value_said (40 ∷ ((xs ++ 44 ∷ ys) ++ 41 ∷ [])) ≡ None
no_value xs ys h k =
    let t : List ℕ = xs ++ 44 ∷ ys in
    let text : List ℕ = 40 ∷ (t ++ 41 ∷ []) in
    ap (λ n. other_said n text) (no_number (t ++ 41 ∷ []))
    ∙ ap (λ b. if b then Some (name text) else option_map register (register_of text)) (no_name (t ++ 41 ∷ []))
    ∙ ap (λ b. option_map register (if b then register_number (without_r (enclosed text)) else None)) (closed t)
    ∙ ap (λ x. option_map register (register_number (without_r x))) (inside t)
    ∙ ap (λ r. option_map register r) (comma_inside xs ys h k)

parts : (a b : List ℕ) → IsOperand a → IsOperand b → parts_of (40 ∷ ((a ++ 44 ∷ b) ++ 41 ∷ [])) ≡ Some (a, b)
parts a b h k =
    rw (closed (a ++ 44 ∷ b), inside (a ++ 44 ∷ b), balanced_joined a (b ∷ []) h (k, tt), split_joined a (b ∷ []) h (k, tt)) refl

pub record PairText (maximum minimum : Written) : Type 0 where
  pub text : List ℕ
  pub spells : pair_of text ≡ Some (maximum, minimum)
  pub other : value_said text ≡ None
  pub stands : IsOperand text
  pub few : length text ≤ 129

pub pair_text_of : (a b : Written) → IsValue a → IsValue b → PairText a b
pair_text_of a b h k =
    let ta = value_text_of a h in
    let tb = value_text_of b k in
    let t : List ℕ = ta.text ++ 44 ∷ tb.text in
    let long₁ : length (t ++ 41 ∷ []) ≡ length t + 1 = length_push t 41 in
    let long₂ : length t ≡ length ta.text + length (44 ∷ tb.text) = length-append ta.text (44 ∷ tb.text) in
    let few₁ : length ta.text ≤ 63 = ta.neat.few in
    let few₂ : length tb.text ≤ 63 = tb.neat.few in
    record {
      text = 40 ∷ (t ++ 41 ∷ []);
      spells = ap (option_and_then (λ p. both_of (value_of p.0) (value_of p.1))) (parts ta.text tb.text (ta.neat.goes 0) (tb.neat.goes 0)) ∙ ap (λ x. both_of x (value_of tb.text)) ta.spells
          ∙ ap (λ x. both_of (Some a) x) tb.spells;
      other = no_value ta.text tb.text ta.neat.some tb.neat.some;
      stands = goes_enclosed 0 t (goes_append _ _ _ ta.text (44 ∷ tb.text) (ta.neat.goes 1) (refl, refl, refl, tb.neat.goes 1));
      few = omega (arith, long₁, long₂, few₁, few₂);
    }
