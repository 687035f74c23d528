-- Names and the words of a line.
use Rattle.std.specs.Prelude.{ℕ, Bool, ◌&&◌, ◌||◌, ◌==◌, nat_le, if◌then◌else◌, List, length, map, take, drop, slice_index}
use Rattle.std.specs.Prelude.{Option, Some, None}
use Rattle.std.specs.List.{list_all, prefix_len, position_or_len}
use Rattle.std.specs.Str.{bytes_eq}
use Rattle.std.specs.Char.{to_ascii_uppercase}

-- A letter of names is alphabetic or one of `$ # @ _` (High Level Assembler Language Reference, "Character set").
abbrev pub is_letter : ℕ → Bool
is_letter c =
    (nat_le 65 c && nat_le c 90) || (nat_le 97 c && nat_le c 122) || (c == 36) || (c == 35) || (c == 64) || (c == 95)

-- A byte of a name after the first is a letter or a digit.
abbrev pub is_name_byte : ℕ → Bool
is_name_byte c = is_letter c || (nat_le 48 c && nat_le c 57)

-- A name is a letter and up to 62 letters or digits (High Level Assembler Language Reference, "Symbols").
abbrev pub is_name : List ℕ → Bool
is_name text =
    nat_le 1 (length text) && nat_le (length text) 63 && is_letter (slice_index text 0) && list_all is_name_byte text

-- How many letters and digits of names a text begins with.
abbrev pub name_bytes : List ℕ → ℕ
name_bytes text = prefix_len is_name_byte text

-- How many these are, if they are a name.
abbrev pub name_len : List ℕ → Option ℕ
name_len text = if is_name (take (name_bytes text) text) then Some (name_bytes text) else None

-- A text is this word if it is so in upper case, bytes above 127 as they are.
abbrev pub is_word : List ℕ → List ℕ → Bool
is_word text word = bytes_eq (map to_ascii_uppercase text) word

-- A word goes up to the first blank.
abbrev pub word_len : List ℕ → ℕ
word_len text = position_or_len (λ c. c == 32) text

-- How many blanks a text begins with.
abbrev pub blank_len : List ℕ → ℕ
blank_len text = prefix_len (λ c. c == 32) text

-- The first word.
abbrev pub word : List ℕ → List ℕ
word text = take (word_len text) text

-- What follows the first word.
abbrev pub after_word : List ℕ → List ℕ
after_word text = drop (word_len text) text

-- What follows the blanks at the start.
abbrev pub after_blanks : List ℕ → List ℕ
after_blanks text = drop (blank_len text) text
