-- A table of classes is compared with their definition at each byte, by computing.
use Rattle.std.proofs.Common.{◌≡◌, ℕ, zero, suc, ◌<◌, Bool, true, false, ◌&&◌, ◌==◌, get_or, List, refl, arith, inl, inr}
use Rattle.std.proofs.lemmas.Bool.{cases_eq, eqb-true}
use Rattle.std.specs.Int.RustNames.{bit_and}
use Rattle.operand_texts.specs.Characters.{classes_of}

-- what a table of digits contains for a byte
abbrev pub class_in : List ℕ → ℕ → ℕ
class_in table c = bit_and (get_or table c 0) 15

-- the table contains the classes of each byte below n
unfoldable pub are_classes : List ℕ → ℕ → Bool
are_classes table zero = true
are_classes table (suc n) = (class_in table n == classes_of n) && are_classes table n

both_of : (x rest : Bool) → (x && rest) ≡ true → (x ≡ true) × (rest ≡ true)
both_of true rest h = (refl, h)
both_of false rest h = cc

pub class_at : (table : List ℕ) (n : ℕ) → are_classes table n ≡ true → (c : ℕ) → c < n → class_in table c ≡ classes_of c
unfolding are_classes
class_at table zero h c lt = absurd (omega arith)
class_at table (suc n) h c lt =
    let both = both_of (class_in table n == classes_of n) (are_classes table n) h in
    elim (cases_eq c n) [
      | inl same ↦ rw same (eqb-true _ _ both.0)
      | inr other ↦ class_at table n both.1 c (omega arith)
    ]
