-- The bytes of a line as a listing shows them, and the columns that they have there (RFC 3629, "UTF-8 definition" and
-- "Syntax of UTF-8 Byte Sequences").
use Rattle.std.specs.Prelude.{ℕ, zero, suc, ◌+◌, ◌-◌, Bool, ◌&&◌, ◌||◌, ◌==◌, nat_le, nat_lt, if◌then◌else◌, List}
use Rattle.std.specs.Prelude.{[], ◌∷◌, ◌++◌, length, slice_index_or}

-- how many bytes a letter has that begins with this one; 1 where none does
abbrev pub letter_bytes : ℕ → ℕ
letter_bytes c =
    if nat_le 194 c && nat_le c 223 then 2
    else if nat_le 224 c && nat_le c 239 then 3
    else if nat_le 240 c && nat_le c 244 then 4
    else 1

-- Its second byte: X'80' to X'BF', except control characters (X'C280' to X'C29F'), characters that fewer bytes spell,
-- halves of pairs, and what is above X'10FFFF'.
abbrev pub least_second : ℕ → ℕ
least_second c = if c == 194 then 160 else if c == 224 then 160 else if c == 240 then 144 else 128

abbrev pub most_second : ℕ → ℕ
most_second c = if c == 237 then 159 else if c == 244 then 143 else 191

abbrev pub goes_on : ℕ → Bool
goes_on c = nat_le 128 c && nat_le c 191

-- how many bytes the letter has that begins at a place of a line; 1 where none begins there
abbrev pub letter_at : List ℕ → ℕ → ℕ
letter_at line at =
    let first = slice_index_or line at 0 in
    let second = slice_index_or line (at + 1) 0 in
    let bytes = letter_bytes first in
    if nat_le (least_second first) second && nat_le second (most_second first)
    && (nat_le bytes 2 || goes_on (slice_index_or line (at + 2) 0))
    && (nat_le bytes 3 || goes_on (slice_index_or line (at + 3) 0))
    then bytes
    else 1

-- the byte at a place continues a letter
abbrev pub continues : List ℕ → ℕ → Bool
continues line at =
    (nat_le 1 at && nat_lt 1 (letter_at line (at - 1))) || (nat_le 2 at && nat_lt 2 (letter_at line (at - 2)))
    || (nat_le 3 at && nat_lt 3 (letter_at line (at - 3)))

-- The column of the byte at a place, from 0: one that continues a letter has none of its own, each other one has.
abbrev pub column_of : List ℕ → ℕ → ℕ
column_of line zero = zero
column_of line (suc n) = if continues line (suc n) then column_of line n else column_of line n + 1

abbrev pub is_plain : ℕ → Bool
is_plain c = nat_le 32 c && nat_le c 126

-- the byte as it's shown: a point in the place of one that is no printing character, and of no letter
abbrev pub shown_at : List ℕ → ℕ → ℕ
shown_at line at =
    if is_plain (slice_index_or line at 0) || nat_lt 1 (letter_at line at) || continues line at
    then slice_index_or line at 0
    else 46

-- This many first bytes of a line as they're shown; and all of them.
abbrev pub shown_to : List ℕ → ℕ → List ℕ
shown_to line zero = []
shown_to line (suc n) = shown_to line n ++ shown_at line n ∷ []

abbrev pub shown : List ℕ → List ℕ
shown line = shown_to line (length line)
