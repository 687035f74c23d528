-- A field's nesting after more bytes; a byte above a parenthesis leaves it as it was.
use Rattle.std.proofs.Common.{◌≡◌, ℕ, ◌+◌, ◌<◌, ◌≤◌, List, [], ◌∷◌, ◌++◌, length, take, get_or, refl, sym, ap, ◌∙◌, arith}
use Rattle.std.proofs.lemmas.List.{take_more}
use Rattle.operand_texts.specs.declared.nesting.Nesting.{Nesting}
use Rattle.operand_texts.specs.Field.{past, nesting_after}
use Rattle.operand_texts.specs.Runs.{AreAbove}
use Rattle.operand_texts.proofs.RunBytes.{handed_on}
use Rattle.operand_texts.proofs.Above.{past_above}

after_push : (n : Nesting) (t : List ℕ) (c : ℕ) → nesting_after n (t ++ c ∷ []) ≡ past (nesting_after n t) c
after_push n [] c = refl
after_push n (x ∷ xs) c = after_push (past n x) xs c

pub after_more : (n at : Nesting) (t : List ℕ) (i : ℕ) → i < length t → at ≡ nesting_after n (take i t) → past at (get_or t i 0) ≡ nesting_after n (take (i + 1) t)
after_more n at t i h e = ap (λ m. past m (get_or t i 0)) e ∙ sym (ap (nesting_after n) (take_more t i 0 h) ∙ after_push n (take i t) (get_or t i 0))

pub after_above : (n at : Nesting) (t : List ℕ) (i : ℕ) → i < length t → 41 < get_or t i 0 → at ≡ nesting_after n (take i t) → at ≡ nesting_after n (take (i + 1) t)
after_above n at t i h k e = sym (past_above at (get_or t i 0) k) ∙ after_more n at t i h e

-- bytes above at once
pub after_skips : (n at : Nesting) (t : List ℕ) (i j : ℕ) → i ≤ j → j ≤ length t → AreAbove 41 t i j → at ≡ nesting_after n (take i t) → at ≡ nesting_after n (take j t)
after_skips n at t i j h within above e =
    handed_on (λ k. at ≡ nesting_after n (take k t)) i j h (λ k from below q. after_above n at t k (omega arith) (above k from below) q) e

-- the nesting after two texts, the second after the first
pub after_both : (n : Nesting) (xs ys : List ℕ) → nesting_after n (xs ++ ys) ≡ nesting_after (nesting_after n xs) ys
after_both n [] ys = refl
after_both n (x ∷ xs) ys = after_both (past n x) xs ys
