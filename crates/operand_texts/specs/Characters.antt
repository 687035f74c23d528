-- Classes of the characters of names.
use Rattle.std.specs.Prelude.{ℕ, ◌&&◌, ◌||◌, ◌==◌, nat_le, if◌then◌else◌, List, [], ◌∷◌, codes}
use Rattle.bitflags.specs.Sets as flags

-- The classes of the characters of names, each with its bit (High Level Assembler Language Reference, "Character set"),
-- followed by two sets of these: what begins a name, and what may be in one.
abbrev pub classes : List flags.Row
classes =
    (codes "LETTER", 1) ∷ (codes "NATIONAL", 2) ∷ (codes "UNDERSCORE", 4) ∷ (codes "DIGIT", 8) ∷ (codes "ALPHABETIC", 7)
    ∷ (codes "ALPHANUMERIC", 15) ∷ []

-- The classes of a character: letters in either case, `$ # @`, the underscore and digits are in one, others in none.
abbrev pub classes_of : ℕ → ℕ
classes_of c =
    if (nat_le 65 c && nat_le c 90) || (nat_le 97 c && nat_le c 122) then 1
    else if (c == 36) || (c == 35) || (c == 64) then 2
    else if c == 95 then 4
    else if nat_le 48 c && nat_le c 57 then 8
    else 0
