-- The end of operands, as a text is gone over.
use Rattle.std.proofs.Common.{◌≡◌, ℕ, ◌+◌, ◌<◌, ◌≤◌, max, Bool, true, false, ◌||◌, not, ◌==◌, List, [], ◌∷◌, ◌++◌, length, take, get_or, refl, sym, ap, ◌∙◌, subst, inl, inr, arith, if◌then◌else◌}
use Rattle.std.proofs.lemmas.Bool.{cases_lt}
use Rattle.std.proofs.lemmas.Bool.Decides.{nat_tests}
use Rattle.std.proofs.lemmas.List.{take_all, take_more}
use Rattle.operand_texts.specs.declared.nesting.Nesting.{Nesting}
use Rattle.operand_texts.specs.Field.{is_balanced, outside, past, separates}
use Rattle.explain_faults.specs.Operands.{front, is_counted, nesting_behind, is_end, Starts}

nesting_push : (n : Nesting) (xs : List ℕ) (c : ℕ) → nesting_behind n (xs ++ c ∷ []) ≡ past (nesting_behind n xs) c
nesting_push n [] c = refl
nesting_push n (x ∷ xs) c = nesting_push (past n x) xs c

-- one more byte
pub nesting_more : (xs : List ℕ) (i : ℕ) (at next : Nesting) → i < length xs → at ≡ nesting_behind outside (take i xs) → next ≡ past at (get_or xs i 0) →
    next ≡ nesting_behind outside (take (i + 1) xs)
nesting_more xs i at next more e f =
    f ∙ ap (λ (n : Nesting). past n (get_or xs i 0)) e ∙ sym (ap (nesting_behind outside) (take_more xs i 0 more) ∙ nesting_push outside (take i xs) (get_or xs i 0))

not_length : (i n : ℕ) → i < n → (i == n) ≡ false
not_length i n h = grind (arith, nat_tests)

-- before a byte of a text an operand ends exactly if that separates
pub end_is : (xs : List ℕ) (i : ℕ) (at : Nesting) → i < length xs → at ≡ nesting_behind outside (take i xs) → is_end xs i ≡ separates at (get_or xs i 0)
end_is xs i at more e =
    ap (λ (b : Bool). b || separates (nesting_behind outside (take i xs)) (get_or xs i 0)) (not_length i (length xs) more)
    ∙ ap (λ (n : Nesting). separates n (get_or xs i 0)) (sym e)

same_length : (n : ℕ) → (n == n) ≡ true
same_length n = grind (arith, nat_tests)

pub last_ends : (xs : List ℕ) → is_end xs (length xs) ≡ true
last_ends xs = ap (λ (b : Bool). b || separates (nesting_behind outside (take (length xs) xs)) (get_or xs (length xs) 0)) (same_length (length xs))

-- all operands are read as they are, and count
pub whole_front : (xs : List ℕ) → front xs (length xs) ≡ xs
whole_front xs = take_all (max (length xs) 1) xs (omega arith)

or_not : (b : Bool) → (b || not b) ≡ true
or_not true = refl
or_not false = refl

pub whole_counts : (xs : List ℕ) → is_counted xs (length xs) ≡ true
whole_counts xs =
    ap (λ ys. is_balanced outside xs || not (is_balanced outside ys)) (whole_front xs) ∙ or_not (is_balanced outside xs)

the_same : (j i : ℕ) → i ≤ j → j < i + 1 → j ≡ i
the_same j i from below = omega (arith, from, below)

-- what holds below a number and at it holds below the next one
pub below_more : (P : ℕ → Type 0) (i : ℕ) → ((j : ℕ) → j < i → P j) → P i → (j : ℕ) → j < i + 1 → P j
below_more P i h at j below =
    elim (cases_lt j i) [
      | inl less ↦ h j less
      | inr from ↦ subst P (sym (the_same j i from below)) at
    ]

-- the start of the operand after one more byte, by whether an operand ends there
starts_by : (text : List ℕ) (i start : ℕ) (b : Bool) → is_end text i ≡ b → Starts text i start → Starts text (i + 1) (if b then i + 1 else start)
starts_by text i start true e h = record {
  within = omega arith;
  begins = inr (i, refl, e);
  last = λ j from below. absurd (omega (arith, from, below));
}
starts_by text i start false e h = record {
  within = let w = h.within in omega (arith, w);
  begins = h.begins;
  last = λ j from below. elim (cases_lt j i) [
    | inl less ↦ h.last j from less
    | inr above ↦ subst (λ k. is_end text k ≡ false) (sym (the_same j i above below)) e
  ];
}

pub starts_more : (text : List ℕ) (i start next : ℕ) (at : Nesting) → i < length text → at ≡ nesting_behind outside (take i text)
    → next ≡ (if separates at (get_or text i 0) then i + 1 else start) → Starts text i start → Starts text (i + 1) next
starts_more text i start next at more e is h =
    subst (Starts text (i + 1)) (sym is) (starts_by text i start (separates at (get_or text i 0)) (end_is text i at more e) h)

pub starts_first : (text : List ℕ) → Starts text 0 0
starts_first text = record { within = omega arith; begins = inl refl; last = λ j from below. absurd (omega (arith, below)) }
