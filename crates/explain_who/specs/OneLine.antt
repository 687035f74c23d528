-- A statement on one line: its first line, or, if it has several, what the reader joins of them.
use Rattle.std.specs.Prelude.{ℕ, zero, suc, ◌-◌, ◌==◌, ◌||◌, Bool, if◌then◌else◌, Option, Some, None, List, [], ◌∷◌}
use Rattle.std.specs.Prelude.{◌++◌, length, take}
use Rattle.std.specs.List.{position_or_len}
use Rattle.std.specs.Str.Lines.{strip_carriage_return}
use Rattle.macro_reader.specs.Columns.{is_continued, used}
use Rattle.macro_reader.specs.Continuation.{Joined, begun, with_lines}
use Rattle.macro_statements.specs.Statements.{from_operands}
use Rattle.explain_who.specs.ScriptLines.{after_feed}

abbrev pub is_feed : ℕ → Bool
is_feed c = c == 10

-- the line that begins here, without its line feed and a carriage return before that
abbrev pub line_here : List ℕ → List ℕ
line_here begins = strip_carriage_return (take (position_or_len is_feed begins) begins)

-- columns 1 to 71 of the line
abbrev pub card_here : List ℕ → List ℕ
card_here begins = used (line_here begins)

-- and of the lines that continue it, at most this many
abbrev pub further_cards : ℕ → List ℕ → List (List ℕ)
further_cards zero begins = []
further_cards (suc n) begins =
    if is_continued (line_here begins) then card_here (after_feed begins) ∷ further_cards n (after_feed begins) else []

-- the operand field of the statement that begins here, over all of its lines
abbrev pub field_here : List ℕ → Option Joined
field_here begins = with_lines (begun (card_here begins)) (further_cards 9 begins)

-- the columns before the operands on its first line, and the field; only that line if a rule of continuation is broken
abbrev pub joined_with : List ℕ → Option Joined → List ℕ
joined_with card None = card
joined_with card (Some j) = take (71 - length (from_operands card)) card ++ j.text

-- a line ends at its line feed, or at a carriage return
abbrev pub ends_line : ℕ → Bool
ends_line c = (c == 10) || (c == 13)

-- at most the first 71 bytes of a line
abbrev pub columns : List ℕ → List ℕ
columns begins = take (position_or_len ends_line (take 71 begins)) (take 71 begins)

-- the statement that begins here
abbrev pub statement_here : List ℕ → List ℕ
statement_here begins =
    if is_continued (line_here begins) then joined_with (card_here begins) (field_here begins) else columns begins
