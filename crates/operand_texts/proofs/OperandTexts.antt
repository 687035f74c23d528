-- Texts that can be operands, and fields that are made of them.
use Rattle.std.proofs.Common.{◌≡◌, ℕ, ◌<◌, ◌≤◌, ◌==◌, Bool, true, false, not, ◌&&◌, List, [], ◌∷◌, ◌++◌, length, if◌then◌else◌, arith, refl, ap, ◌∙◌}
use Rattle.std.specs.List.{AllByRecursion, list_all}
use Rattle.std.specs.Char.{digit_value}
use Rattle.std.specs.Str.Parse.{AllDigits}
use Rattle.std.proofs.lemmas.Bool.Decides.{nat_tests}
use Rattle.std.proofs.lemmas.Str.Parse.{digit_from_value}
use Rattle.operand_texts.specs.declared.nesting.Nesting.{Nesting}
use Rattle.operand_texts.specs.Field.{outside, past, is_balanced, separates, operands_from, operands}
use Rattle.operand_texts.specs.Words.{is_name_byte, is_name}

both : (x y : Bool) → (x && y) ≡ true → (x ≡ true) × (y ≡ true)
both true y h = (refl, h)
both false y h = cc

-- a blank that ends the field, and a parenthesis that is closed too often
abbrev pub ends : Nesting → ℕ → Bool
ends n c = c == 32 && not n.quoted

abbrev pub overcloses : Nesting → ℕ → Bool
overcloses n c = c == 41 && not n.quoted && (n.depth == 0)

-- a text leads from one nesting to another, within one operand
abbrev pub Goes : Nesting → List ℕ → Nesting → Type 0
Goes n [] m = n ≡ m
Goes n (c ∷ cs) m = (ends n c ≡ false) × (overcloses n c ≡ false) × (separates n c ≡ false) × Goes (past n c) cs m

pub goes_append : (n m k : Nesting) (xs ys : List ℕ) → Goes n xs m → Goes m ys k → Goes n (xs ++ ys) k
goes_append n m k [] ys h g = rw h g
goes_append n m k (c ∷ cs) ys h g = (h.0, h.1, h.2, goes_append (past n c) m k cs ys h.3 g)

-- a byte that is no blank, apostrophe, parenthesis, comma or equals sign
pub record IsPlain (c : ℕ) : Type 0 where
  pub blank : (c == 32) ≡ false
  pub quote : (c == 39) ≡ false
  pub opens : (c == 40) ≡ false
  pub closes : (c == 41) ≡ false
  pub comma : (c == 44) ≡ false
  pub equals : (c == 61) ≡ false

past_plain : (n : Nesting) (c : ℕ) → IsPlain c → past n c ≡ n
past_plain n c p = rw (p.quote, p.opens, p.closes) (elim n.quoted as (λ q. (if q then n else n) ≡ n) [ true ↦ refl | false ↦ refl ])

pub goes_plain : (n : Nesting) (xs : List ℕ) → AllByRecursion IsPlain xs → Goes n xs n
goes_plain n [] h = refl
goes_plain n (c ∷ cs) h =
    let rest : Goes (past n c) cs n = rw (past_plain n c h.0) (goes_plain n cs h.1) in
    (rw h.0.blank refl, rw h.0.closes refl, rw h.0.comma refl, rest)

plain_name_byte : (c : ℕ) → is_name_byte c ≡ true → IsPlain c
plain_name_byte c h = record {
  blank = grind (arith, nat_tests);
  quote = grind (arith, nat_tests);
  opens = grind (arith, nat_tests);
  closes = grind (arith, nat_tests);
  comma = grind (arith, nat_tests);
  equals = grind (arith, nat_tests);
}

plain_name_bytes : (xs : List ℕ) → list_all is_name_byte xs ≡ true → AllByRecursion IsPlain xs
plain_name_bytes [] h = tt
plain_name_bytes (x ∷ xs) h = let b = both (is_name_byte x) (list_all is_name_byte xs) h in (plain_name_byte x b.0, plain_name_bytes xs b.1)

pub plain_name : (text : List ℕ) → is_name text ≡ true → AllByRecursion IsPlain text
plain_name text h = plain_name_bytes text (both _ (list_all is_name_byte text) h).1

pub plain_digit : (c : ℕ) → 48 ≤ c → c ≤ 57 → IsPlain c
plain_digit c h k = record {
  blank = grind (arith, nat_tests);
  quote = grind (arith, nat_tests);
  opens = grind (arith, nat_tests);
  closes = grind (arith, nat_tests);
  comma = grind (arith, nat_tests);
  equals = grind (arith, nat_tests);
}

digit_name_byte : (c : ℕ) → digit_value c < 10 → is_name_byte c ≡ true
digit_name_byte c h = let r = digit_from_value c h in grind (arith, nat_tests, r)

pub plain_digits : (text : List ℕ) → AllDigits 10 text → AllByRecursion IsPlain text
plain_digits [] h = tt
plain_digits (c ∷ cs) h = (plain_name_byte c (digit_name_byte c h.0), plain_digits cs h.1)

-- operands of a text
pub operand_last : (n m : Nesting) (o : List ℕ) → Goes n o m → operands_from n o ≡ o ∷ []
operand_last n m [] h = refl
operand_last n m (c ∷ cs) h = rw (h.2, operand_last (past n c) m cs h.3) refl

pub operand_first : (n : Nesting) (o rest : List ℕ) → Goes n o outside → operands_from n (o ++ 44 ∷ rest) ≡ o ∷ operands_from outside rest
operand_first n [] rest h = rw h refl
operand_first n (c ∷ cs) rest h = rw (h.2, operand_first (past n c) cs rest h.3) refl

pub balanced_last : (n : Nesting) (o : List ℕ) → Goes n o outside → is_balanced n o ≡ true
balanced_last n [] h = rw h refl
balanced_last n (c ∷ cs) h = balanced_last (past n c) cs h.3

pub balanced_first : (n : Nesting) (o rest : List ℕ) → Goes n o outside → is_balanced outside rest ≡ true → is_balanced n (o ++ 44 ∷ rest) ≡ true
balanced_first n [] rest h k = rw h k
balanced_first n (c ∷ cs) rest h k = balanced_first (past n c) cs rest h.3 k

-- operands with commas between them
abbrev pub joined : List ℕ → List (List ℕ) → List ℕ
joined o [] = o
joined o (p ∷ os) = o ++ 44 ∷ joined p os

-- a text that can be an operand
abbrev pub IsOperand : List ℕ → Type 0
IsOperand o = Goes outside o outside

pub split_joined : (o : List ℕ) (os : List (List ℕ)) → IsOperand o → AllByRecursion IsOperand os → operands_from outside (joined o os) ≡ o ∷ os
split_joined o [] h k = operand_last outside outside o h
split_joined o (p ∷ os) h k = operand_first outside o (joined p os) h ∙ ap (λ x. o ∷ x) (split_joined p os k.0 k.1)

pub balanced_joined : (o : List ℕ) (os : List (List ℕ)) → IsOperand o → AllByRecursion IsOperand os → is_balanced outside (joined o os) ≡ true
balanced_joined o [] h k = balanced_last outside o h
balanced_joined o (p ∷ os) h k = balanced_first outside o (joined p os) h (balanced_joined p os k.0 k.1)

some_joined : (o : List ℕ) (os : List (List ℕ)) → 1 ≤ length o → (length (joined o os) == 0) ≡ false
some_joined [] os h = absurd (omega (arith, h))
some_joined (c ∷ cs) [] h = grind (arith, nat_tests)
some_joined (c ∷ cs) (p ∷ os) h = grind (arith, nat_tests)

pub operands_joined : (o : List ℕ) (os : List (List ℕ)) → 1 ≤ length o → IsOperand o → AllByRecursion IsOperand os → operands (joined o os) ≡ o ∷ os
operands_joined o os h k l = rw (some_joined o os h) (split_joined o os k l)
