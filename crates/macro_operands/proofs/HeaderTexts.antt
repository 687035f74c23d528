-- A text for each header that is valid, which can be an operand.
use Rattle.std.proofs.Common.{◌≡◌, ℕ, ◌+◌, ◌-◌, ◌≤◌, ◌==◌, Bool, true, false, not, ◌&&◌, List, [], ◌∷◌, ◌++◌, length, Some, nat_le, slice_index, arith, refl, ap}
use Rattle.std.specs.List.{AllByRecursion, list_all}
use Rattle.std.proofs.lemmas.Bool.Decides.{nat_tests}
use Rattle.std.proofs.lemmas.List.{length_push}
use Rattle.operand_texts.specs.declared.nesting.Nesting.{Nesting}
use Rattle.operand_texts.specs.Field.{outside}
use Rattle.operand_texts.specs.Values.{enclosed}
use Rattle.operand_texts.proofs.OperandTexts.{Goes, IsOperand, goes_append}
use Rattle.operand_texts.proofs.SpelledBytes.{last_is, front_is, all_both}
use Rattle.macro_operands.specs.Headers.{is_header_byte, is_header, is_between_apostrophes, header_of}

both : (x y : Bool) → (x && y) ≡ true → (x ≡ true) × (y ≡ true)
both true y h = (refl, h)
both false y h = cc

not_true : (b : Bool) → not b ≡ true → b ≡ false
not_true true h = cc
not_true false h = refl

and_no : (a : Bool) → (a && false) ≡ false
and_no true = refl
and_no false = refl

and_no_more : (a b : Bool) → (a && false && b) ≡ false
and_no_more true b = refl
and_no_more false b = refl

-- between apostrophes only an apostrophe counts
abbrev inside : Nesting
inside = record { quoted = true; depth = 0; overclosed = false }

goes_inside : (xs : List ℕ) → AllByRecursion (λ c. (c == 39) ≡ false) xs → Goes inside xs inside
goes_inside [] h = refl
goes_inside (c ∷ cs) h = (and_no (c == 32), and_no_more (c == 41) true, and_no_more (c == 44) true, rw h.0 (goes_inside cs h.1))

no_apostrophes : (xs : List ℕ) → list_all is_header_byte xs ≡ true → AllByRecursion (λ c. (c == 39) ≡ false) xs
no_apostrophes [] h = tt
no_apostrophes (c ∷ cs) h =
    let b = both (is_header_byte c) (list_all is_header_byte cs) h in
    (not_true (c == 39) (both _ (not (c == 39)) b.0).1, no_apostrophes cs b.1)

between : (t : List ℕ) → is_between_apostrophes (39 ∷ (t ++ 39 ∷ [])) ≡ true
between t =
    let len = length_push t 39 in
    let long : nat_le 2 (length (39 ∷ (t ++ 39 ∷ []))) ≡ true = grind (arith, nat_tests, len) in
    let last : slice_index (39 ∷ (t ++ 39 ∷ [])) (length (39 ∷ (t ++ 39 ∷ [])) - 1) ≡ 39 = last_is (39 ∷ t) 39 in
    all_both _ _ _ long refl (ap (λ x. x == 39) last)

within : (t : List ℕ) → enclosed (39 ∷ (t ++ 39 ∷ [])) ≡ t
within t = let len = length_push t 39 in front_is t 39 _ (omega (arith, len))

pub record HeaderText (header : List ℕ) : Type 0 where
  pub text : List ℕ
  pub spells : header_of text ≡ Some header
  pub stands : IsOperand text
  pub few : length text ≤ 26

pub header_text_of : (header : List ℕ) → is_header header ≡ true → HeaderText header
header_text_of header h =
    let sizes = both (nat_le 1 (length header) && nat_le (length header) 24) (list_all is_header_byte header) h in
    let most : nat_le (length header) 24 ≡ true = (both (nat_le 1 (length header)) (nat_le (length header) 24) sizes.0).1 in
    let few : length header ≤ 24 = grind (arith, nat_tests, most) in
    let long : length (header ++ 39 ∷ []) ≡ length header + 1 = length_push header 39 in
    record {
      text = 39 ∷ (header ++ 39 ∷ []);
      spells = rw (between header, within header, h) refl;
      stands = (refl, refl, refl, goes_append inside inside outside header (39 ∷ []) (goes_inside header (no_apostrophes header sizes.1)) (refl, refl, refl, refl));
      few = omega (arith, long, few);
    }
