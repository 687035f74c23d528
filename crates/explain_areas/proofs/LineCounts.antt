-- The lines of a script, with one more byte.
use Rattle.std.proofs.Common.{◌≡◌, ℕ, ◌+◌, ◌==◌, ◌<◌, ◌≤◌, Bool, true, false, not, if◌then◌else◌, List, [], ◌∷◌, ◌++◌, length, take, get_or, refl, sym, ap, ◌∙◌, arith}
use Rattle.std.specs.Int.{from_bool}
use Rattle.std.proofs.lemmas.List.{take_more}
use Rattle.explain_report.specs.Lines.{feeds, is_open}

feeds_and : (bytes : List ℕ) (c : ℕ) → feeds (bytes ++ c ∷ []) ≡ feeds bytes + (if c == 10 then 1 else 0)
feeds_and [] c = omega arith
feeds_and (d ∷ bytes) c = omega (arith, feeds_and bytes c)

open_and : (before : Bool) (bytes : List ℕ) (c : ℕ) → is_open before (bytes ++ c ∷ []) ≡ not (c == 10)
open_and before [] c = refl
open_and before (d ∷ bytes) c = open_and (not (d == 10)) bytes c

pub feeds_more : (bytes : List ℕ) (i d : ℕ) → i < length bytes →
    feeds (take (i + 1) bytes) ≡ feeds (take i bytes) + (if get_or bytes i d == 10 then 1 else 0)
feeds_more bytes i d below = ap feeds (take_more bytes i d below) ∙ feeds_and (take i bytes) (get_or bytes i d)

pub open_more : (bytes : List ℕ) (i d : ℕ) → i < length bytes → is_open false (take (i + 1) bytes) ≡ not (get_or bytes i d == 10)
open_more bytes i d below = ap (is_open false) (take_more bytes i d below) ∙ open_and false (take i bytes) (get_or bytes i d)

pub twice : (b : Bool) → from_bool (not (not b)) ≡ (if b then 1 else 0)
twice true = refl
twice false = refl

pub one_at_most : (b : Bool) → (if b then 1 else 0) ≤ 1
one_at_most true = omega arith
one_at_most false = omega arith
