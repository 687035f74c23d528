-- The blanks that fill a line are no part of what it says: a line is skipped by its own columns.
use Rattle.std.proofs.Common.{◌≡◌, ◌+◌, ◌-◌, ◌==◌, ◌&&◌, ℕ, zero, suc, List, [], ◌∷◌, length, min, take, drop, replicate, ◌++◌, Bool, true, false, arith, sym, ap, refl, ◌∙◌, inl, inr, append-nil}
use Rattle.std.proofs.Math.Seq.{take-append-add}
use Rattle.std.proofs.lemmas.List.{take_all, take-append-le, take-replicate, drop-replicate}
use Rattle.std.proofs.lemmas.List.Folds.{list_all-append}
use Rattle.std.proofs.lemmas.Bool.{cases_lt}
use Rattle.macro_reader.specs.Columns.{Line, used, is_blank, is_comment}

-- a line over this many blanks
pub filled : (m : ℕ) (line : List ℕ)
    → take (min (length line) m) line ++ drop (min (length line) m) (replicate m 32) ≡ take m (line ++ replicate m 32)
filled m line = elim (cases_lt m (length line)) [
  | inl long ↦ (let n : min (length line) m ≡ m = omega (arith, long) in
      let none : m - m ≡ 0 = omega arith in
      ap (λ k. take k line ++ drop k (replicate m 32)) n
      ∙ ap (λ x. take m line ++ x) (drop-replicate m m 32 ∙ ap (λ k. replicate k 32) none)
      ∙ append-nil (take m line) ∙ sym (take-append-le m line (replicate m 32) (omega (arith, long))))
  | inr short ↦ (let n : min (length line) m ≡ length line = omega (arith, short) in
      let all : length line + (m - length line) ≡ m = omega (arith, short) in
      ap (λ k. take k line ++ drop k (replicate m 32)) n
      ∙ ap (λ x. x ++ drop (length line) (replicate m 32)) (take_all (length line) line (omega arith))
      ∙ ap (λ x. line ++ x) (drop-replicate (length line) m 32 ∙ sym (take-replicate (m - length line) m 32 (omega arith)))
      ∙ sym (take-append-add line (replicate m 32) (m - length line)) ∙ ap (λ k. take k (line ++ replicate m 32)) all)
]

all_blank : (n : ℕ) → is_blank (replicate n 32) ≡ true
all_blank zero = refl
all_blank (suc n) = all_blank n

and_true : (b : Bool) → (b && true) ≡ b
and_true true = refl
and_true false = refl

pub blank_as_filled : (line : Line) → is_blank (take (min (length line) 71) line) ≡ is_blank (used line)
blank_as_filled line = sym (and_true (is_blank (take (min (length line) 71) line)))
    ∙ ap (λ b. is_blank (take (min (length line) 71) line) && b) (sym (ap is_blank (drop-replicate (min (length line) 71) 71 32) ∙ all_blank (71 - min (length line) 71)))
    ∙ sym (list_all-append (λ c. c == 32) (take (min (length line) 71) line) (drop (min (length line) 71) (replicate 71 32)))
    ∙ ap is_blank (filled 71 line)

pub comment_as_filled : (line : Line) → is_comment line ≡ is_comment (used line)
comment_as_filled [] = refl
comment_as_filled (c ∷ line) = refl
