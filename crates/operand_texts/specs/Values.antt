-- Values as operands spell them: numbers, names, registers and pairs.
use Rattle.std.specs.Prelude.{◌≡◌, ℕ, ◌+◌, ◌-◌, ◌*◌, ◌%◌, ◌^◌, Bool, ◌&&◌, ◌==◌, nat_lt, nat_le}
use Rattle.std.specs.Prelude.{if◌then◌else◌, List, [], ◌∷◌, length, drop, map, Option, Some, None}
use Rattle.std.specs.Prelude.{slice_index, slice_range}
use Rattle.std.specs.List.{list_all}
use Rattle.std.specs.Option.{option_map}
use Rattle.std.specs.Char.{to_ascii_uppercase, is_digit, digit_value}
use Rattle.std.specs.Str.Parse.{digits_value}
use Rattle.operand_texts.specs.Words.{is_name}
use Rattle.operand_texts.specs.Written.{Written, number, named, register, Target, in_name, in_register, Stored, spelled}
use Rattle.operand_texts.specs.Written.{word}
use Rattle.operand_texts.specs.Field.{outside, is_balanced, operands_from}

-- The number that 1 to this many digits of a radix spell, if it is below 2 ^ 32.
abbrev pub digits_number : ℕ → ℕ → List ℕ → Option ℕ
digits_number radix most text =
    if nat_le 1 (length text) && nat_le (length text) most && list_all (λ c. is_digit c radix) text
    && nat_lt (digits_value radix text) (2 ^ 32)
    then Some (digits_value radix text)
    else None

-- A text is this letter, in either case, and something between apostrophes.
abbrev pub is_quoted : ℕ → List ℕ → Bool
is_quoted letter text =
    nat_le 3 (length text) && (to_ascii_uppercase (slice_index text 0) == letter) && (slice_index text 1 == 39)
    && (slice_index text (length text - 1) == 39)

-- A number is 1 to 10 decimal digits, X'..' with 1 to 8 hexadecimal ones or B'..' with 1 to 32 binary ones (High Level
-- Assembler Language Reference, "Self-defining terms").
abbrev pub number_of : List ℕ → Option ℕ
number_of text =
    if is_quoted 88 text then digits_number 16 8 (slice_range text 2 (length text - 1))
    else if is_quoted 66 text then digits_number 2 32 (slice_range text 2 (length text - 1))
    else digits_number 10 10 text

-- A register's number goes from 0 to 15, without leading zeros.
abbrev pub register_number : List ℕ → Option ℕ
register_number digits =
    if (length digits == 1) && nat_le 48 (slice_index digits 0) && nat_le (slice_index digits 0) 57
    then Some (slice_index digits 0 - 48)
    else if (length digits == 2) && (slice_index digits 0 == 49) && nat_le 48 (slice_index digits 1)
    && nat_le (slice_index digits 1) 53
    then Some (slice_index digits 1 - 38)
    else None

-- What follows an R, in either case, or the whole text if it begins with none.
abbrev pub without_r : List ℕ → List ℕ
without_r text = if nat_le 1 (length text) && (to_ascii_uppercase (slice_index text 0) == 82) then drop 1 text else text

-- A text is in parentheses, as far as its first and last byte show.
abbrev pub is_enclosed : List ℕ → Bool
is_enclosed text = nat_le 2 (length text) && (slice_index text 0 == 40) && (slice_index text (length text - 1) == 41)

-- What is between the first and the last byte.
abbrev pub enclosed : List ℕ → List ℕ
enclosed text = slice_range text 1 (length text - 1)

-- A register is written `(n)` or `(Rn)` (Assembler Services Reference, "Coding the macros").
abbrev pub register_of : List ℕ → Option ℕ
register_of text = if is_enclosed text then register_number (without_r (enclosed text)) else None

-- A number, or else a name, in upper case, or a register.
abbrev pub or_other : Option ℕ → List ℕ → Option Written
or_other (Some n) text = Some (number n)
or_other None text =
    if is_name text then Some (named (map to_ascii_uppercase text))
    else option_map register (register_of text)

-- A value is a number, a name or a register.
abbrev pub value_of : List ℕ → Option Written
value_of text = or_other (number_of text) text

-- A text spells this value.
abbrev pub Spells : List ℕ → Written → Type 0
Spells text value = value_of text ≡ Some value

-- A register in which something may be stored goes from 1 to 12.
abbrev pub target_register : Option ℕ → Option Target
target_register None = None
target_register (Some n) = if nat_le 1 n && nat_le n 12 then Some (in_register n) else None

-- A place is a name, in upper case, or a register from 1 to 12.
abbrev pub target_of : List ℕ → Option Target
target_of text =
    if is_name text then Some (in_name (map to_ascii_uppercase text))
    else target_register (register_of text)

-- A text spells this place.
abbrev pub SpellsPlace : List ℕ → Target → Type 0
SpellsPlace text target = target_of text ≡ Some target

-- Two operands, whatever they are.
abbrev pub two_of : List (List ℕ) → Option (List ℕ × List ℕ)
two_of (a ∷ b ∷ []) = Some (a, b)
two_of _ = None

-- The two parts of a text in parentheses, with a comma between them. They may be empty.
abbrev pub parts_of : List ℕ → Option (List ℕ × List ℕ)
parts_of text =
    if is_enclosed text && is_balanced outside (enclosed text) then two_of (operands_from outside (enclosed text))
    else None

-- The byte that two hexadecimal digits spell.
abbrev pub byte_of : ℕ → ℕ → Option ℕ
byte_of high low = if is_digit high 16 && is_digit low 16 then Some (16 * digit_value high + digit_value low) else None

-- A byte is put before bytes, if both exist.
abbrev pub onto_bytes : Option ℕ → Option (List ℕ) → Option (List ℕ)
onto_bytes None rest = None
onto_bytes (Some byte) rest = option_map (λ bytes. byte ∷ bytes) rest

-- The bytes that pairs of hexadecimal digits spell.
abbrev pub hex_bytes : List ℕ → Option (List ℕ)
hex_bytes [] = Some []
hex_bytes (high ∷ []) = None
hex_bytes (high ∷ low ∷ rest) = onto_bytes (byte_of high low) (hex_bytes rest)

-- The bytes that two or more digits spell, an even number of them, up to 256 bytes.
abbrev pub spelled_bytes : List ℕ → Option (List ℕ)
spelled_bytes digits =
    if nat_le 2 (length digits) && nat_le (length digits) 512 && (length digits % 2 == 0) then hex_bytes digits
    else None

-- An A, in either case, and something in parentheses (High Level Assembler Language Reference, "Address constants").
abbrev pub is_address_constant : List ℕ → Bool
is_address_constant text =
    nat_le 1 (length text) && (to_ascii_uppercase (slice_index text 0) == 65) && is_enclosed (drop 1 text)

-- A(..) with a value is that value as a word.
abbrev pub word_of : List ℕ → Option Written
word_of text = if is_address_constant text then value_of (enclosed (drop 1 text)) else None

-- What is stored is X'..' with the digits of 1 to 256 bytes, or A(..) with a value.
abbrev pub content_of : List ℕ → Option Stored
content_of text =
    if is_quoted 88 text then option_map spelled (spelled_bytes (slice_range text 2 (length text - 1)))
    else option_map word (word_of text)

-- A text spells what is stored.
abbrev pub SpellsContent : List ℕ → Stored → Type 0
SpellsContent text content = content_of text ≡ Some content

-- A number that is a size goes from 1 to 256.
abbrev pub within_size : Option ℕ → Option ℕ
within_size None = None
within_size (Some n) = if nat_le 1 n && nat_le n 256 then Some n else None

-- A size is a number from 1 to 256.
abbrev pub size_of : List ℕ → Option ℕ
size_of text = within_size (number_of text)
