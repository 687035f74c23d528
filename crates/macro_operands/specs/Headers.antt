-- Headers of cell pools: the values of HDR (Assembler Services Reference, "CPOOL - Perform cell pool services", HDR).
use Rattle.std.specs.Prelude.{ℕ, Bool, not, ◌&&◌, ◌==◌, ◌-◌, nat_le, if◌then◌else◌, List, length, Option, Some, None}
use Rattle.std.specs.Prelude.{slice_index}
use Rattle.std.specs.List.{list_all}
use Rattle.operand_texts.specs.Values.{enclosed}

-- A character of a header goes from the blank to the tilde, and is no apostrophe.
abbrev pub is_header_byte : ℕ → Bool
is_header_byte c = nat_le 32 c && nat_le c 126 && not (c == 39)

-- A header has 1 to 24 characters.
abbrev pub is_header : List ℕ → Bool
is_header header = nat_le 1 (length header) && nat_le (length header) 24 && list_all is_header_byte header

-- A text is between apostrophes, as far as its first and last byte show.
abbrev pub is_between_apostrophes : List ℕ → Bool
is_between_apostrophes text =
    nat_le 2 (length text) && (slice_index text 0 == 39) && (slice_index text (length text - 1) == 39)

-- The header that is between apostrophes, its letters in the case in which they are written.
abbrev pub header_of : List ℕ → Option (List ℕ)
header_of text = if is_between_apostrophes text && is_header (enclosed text) then Some (enclosed text) else None
