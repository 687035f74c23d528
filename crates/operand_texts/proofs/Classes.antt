-- The classes of a character say whether it begins a name, and whether it may be in one.
use Rattle.std.proofs.Common.{◌≡◌, ℕ, ◌==◌, Bool, true, false, not, ◌&&◌, ◌||◌, if◌then◌else◌, nat_le, refl}
use Rattle.std.specs.Int.RustNames.{bit_and}
use Rattle.operand_texts.specs.Characters.{classes_of}
use Rattle.operand_texts.specs.Words.{is_letter, is_name_byte}

-- the classes, by what is asked of the character
abbrev asked : Bool → Bool → Bool → Bool → Bool → Bool → Bool → ℕ
asked a b x y z u d = if a || b then 1 else if x || y || z then 2 else if u then 4 else if d then 8 else 0

in_front : (a b x y z u d : Bool) → not (bit_and (asked a b x y z u d) 7 == 0) ≡ (a || b || x || y || z || u)
in_front true b x y z u d = refl
in_front false true x y z u d = refl
in_front false false true y z u d = refl
in_front false false false true z u d = refl
in_front false false false false true u d = refl
in_front false false false false false true d = refl
in_front false false false false false false true = refl
in_front false false false false false false false = refl

within : (a b x y z u d : Bool) → not (bit_and (asked a b x y z u d) 15 == 0) ≡ ((a || b || x || y || z || u) || d)
within true b x y z u d = refl
within false true x y z u d = refl
within false false true y z u d = refl
within false false false true z u d = refl
within false false false false true u d = refl
within false false false false false true d = refl
within false false false false false false true = refl
within false false false false false false false = refl

pub begins : (c : ℕ) → not (bit_and (classes_of c) 7 == 0) ≡ is_letter c
begins c = in_front (nat_le 65 c && nat_le c 90) (nat_le 97 c && nat_le c 122) (c == 36) (c == 35) (c == 64) (c == 95) (nat_le 48 c && nat_le c 57)

pub stands : (c : ℕ) → not (bit_and (classes_of c) 15 == 0) ≡ is_name_byte c
stands c = within (nat_le 65 c && nat_le c 90) (nat_le 97 c && nat_le c 122) (c == 36) (c == 35) (c == 64) (c == 95) (nat_le 48 c && nat_le c 57)
