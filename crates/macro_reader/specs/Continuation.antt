-- The operand field of a statement over its continuation lines (High Level Assembler Language Reference, "Continuation
-- lines").
use Rattle.std.specs.Prelude.{ℕ, ◌-◌, Bool, false, not, ◌&&◌, ◌||◌, ◌==◌, if◌then◌else◌, List, [], ◌∷◌, ◌++◌, length}
use Rattle.std.specs.Prelude.{take, drop, slice_index, Option, Some, None}
use Rattle.operand_texts.specs.declared.nesting.Nesting.{Nesting}
use Rattle.macro_reader.specs.Columns.{is_blank}
use Rattle.operand_texts.specs.Field.{outside, nesting_after, field_len}
use Rattle.macro_statements.specs.Statements.{is_misplaced, from_operands}

-- The field so far, where its next byte is, and whether it continues at column 16 of the next line.
pub record Joined : Type 0 where
  pub text : List ℕ
  pub at : Nesting
  pub goes_on : Bool

-- A comma is the last byte of a text.
abbrev pub ends_with_comma : List ℕ → Bool
ends_with_comma text = slice_index text (length text - 1) == 44

-- A line has the field's bytes up to a blank outside apostrophes. The field continues after the line if it reaches
-- column 71, or if a comma precedes that blank.
abbrev pub with_part : List ℕ → Nesting → List ℕ → Joined
with_part text n part = record {
  text = text ++ take (field_len n part) part;
  at = nesting_after n (take (field_len n part) part);
  goes_on = (field_len n part == length part) || ends_with_comma (text ++ take (field_len n part) part);
}

-- A statement without a field, whose continuation lines are remarks.
abbrev pub no_field : Joined
no_field = record { text = []; at = outside; goes_on = false }

-- The field's part on a first line, columns 1 to 71 of it. There is none if nothing follows the operation, or if column
-- 1 isn't blank and has no name, so that nothing says where a field would begin.
abbrev pub begun : List ℕ → Joined
begun card =
    if is_misplaced card || (length (from_operands card) == 0) then no_field
    else with_part [] outside (from_operands card)

-- The field with another continuation line, columns 1 to 71 of it. Columns 1 to 15 of the line are blank. A field that
-- continues does so in column 16: a blank there, outside apostrophes, ends it, except after a comma. Nothing if one of
-- these rules is broken.
abbrev pub with_line : Joined → List ℕ → Option Joined
with_line j card =
    if not (is_blank (take 15 card)) then None
    else if not j.goes_on then Some j
    else if not j.at.quoted && (slice_index card 15 == 32) then
    (if ends_with_comma j.text then None else Some (record { text = j.text; at = j.at; goes_on = false }))
    else Some (with_part j.text j.at (drop 15 card))

-- The field with all continuation lines of a statement.
abbrev pub with_lines : Joined → List (List ℕ) → Option Joined
with_lines j [] = Some j
with_lines j (card ∷ cards) = elim (with_line j card) [ None ↦ None | Some k ↦ with_lines k cards ]
