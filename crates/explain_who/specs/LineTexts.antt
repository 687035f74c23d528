-- Statements of a script as they go out, and counts.
use Rattle.std.specs.Prelude.{ℕ, ◌-◌, ◌==◌, if◌then◌else◌, List, [], ◌++◌, length, take, drop, replicate, codes}
use Rattle.std.specs.List.{prefix_len, suffix_len}
use Rattle.std.specs.Char.{is_ascii_whitespace}
use Rattle.std.specs.Fmt.{decimal}
use Rattle.explain_text.specs.Json.{number_field, string_field}
use Rattle.explain_text.specs.Letters.{column_of, shown}
use Rattle.explain_who.specs.OneLine.{statement_here}
use Rattle.explain_who.specs.ScriptLines.{from_line}

abbrev pub without_blanks_before : List ℕ → List ℕ
without_blanks_before text = drop (prefix_len is_ascii_whitespace text) text

abbrev pub without_blanks_after : List ℕ → List ℕ
without_blanks_after text = take (length text - suffix_len is_ascii_whitespace text) text

-- at most 71 bytes of a statement, without blanks at its ends
abbrev pub shown_bytes : List ℕ → List ℕ
shown_bytes text = take 71 (without_blanks_after (without_blanks_before text))

-- the statement that begins on the line with this number
abbrev pub line_bytes : List ℕ → ℕ → List ℕ
line_bytes script number = shown_bytes (statement_here (from_line script number))

-- the bytes as they're shown, with blanks after them to at least 44 columns
abbrev pub padded : List ℕ → List ℕ
padded text = shown text ++ replicate (44 - column_of text (length text)) 32

-- the number of a line, and its statement in at least 44 columns
abbrev pub line_text : List ℕ → ℕ → List ℕ
line_text script number =
    codes "line " ++ decimal number ++ codes " " ++ padded (line_bytes script number) ++ codes " | "

-- the same as fields of an object
abbrev pub line_fields : List ℕ → ℕ → List ℕ
line_fields script number =
    number_field (codes "line") number ++ string_field (codes "statement") (line_bytes script number)

-- the plural's letter
abbrev pub plural : ℕ → List ℕ
plural n = if n == 1 then [] else codes "s"

-- a number, and what it counts
abbrev pub counted : ℕ → List ℕ → List ℕ
counted n word = decimal n ++ codes " " ++ word ++ plural n
