-- The places of the bytes of an operand field in the lines of its statement, by the grammar's own words for the field.
use Rattle.std.specs.Prelude.{◌≡◌, ◌==◌, ℕ, zero, suc, ◌+◌, ◌-◌, ◌<◌, Bool, true, false, if◌then◌else◌, nat_lt, List}
use Rattle.std.specs.Prelude.{[], ◌∷◌, ◌++◌, length, map, take, drop, max, min, slice_index, slice_index_or}
use Rattle.std.specs.Prelude.{Some, None, Err}
use Rattle.std.specs.List.{slice_get, take_while}
use Rattle.std.specs.Str.Lines.{strip_carriage_return}
use Rattle.macro_operands.specs.declared.faults.FaultKind.{FaultKind}
use Rattle.macro_operands.specs.declared.faults.FaultKind.TheVariants as fault
use Rattle.macro_statements.specs.Statements.{from_operands, statement_with}
use Rattle.operand_texts.specs.Words.{after_blanks, after_word, word_len}
use Rattle.macro_reader.specs.Columns.{used}
use Rattle.macro_reader.specs.Continuation.{Joined, no_field, begun, with_line, with_lines}
use Rattle.explain_faults.specs.Operands.{IsWrongOperand}
use Rattle.explain_faults.specs.declared.carets.Caret.{Caret}
use Rattle.explain_faults.specs.declared.gathered.Field.{Field}
use Rattle.explain_faults.specs.declared.gathered.TextPlace.{TextPlace}
use Rattle.explain_faults.specs.declared.lines.SourceLine.{SourceLine}

-- This many places one after another on a line, the first in this column.
abbrev pub in_row : ℕ → ℕ → ℕ → List TextPlace
in_row line column zero = []
in_row line column (suc count) = record { line = line; column = column } ∷ in_row line (column + 1) count

-- The places of what a line adds to a field: from one column on.
abbrev pub added : ℕ → ℕ → Joined → Joined → List TextPlace
added line column before after = in_row line column (length after.text - length before.text)

-- The places of what continuation lines add, the first of which is this line of the statement: from column 16 on.
abbrev pub added_by : ℕ → Joined → List (List ℕ) → List TextPlace
added_by line j [] = []
added_by line j (card ∷ cards) =
    elim (with_line j card) [ None ↦ [] | Some k ↦ added line 16 j k ++ added_by (line + 1) k cards ]

-- The place of each byte of a statement's field, by columns 1 to 71 of its first line and of its continuation lines.
-- The first line has its part up to column 71.
abbrev pub places_of : List ℕ → List (List ℕ) → List TextPlace
places_of card cards =
    added 0 (72 - length (from_operands card)) no_field (begun card) ++ added_by 1 (begun card) cards

-- The byte at a place of these lines.
abbrev pub byte_at : List (List ℕ) → TextPlace → ℕ
byte_at cards place = slice_index (slice_index_or cards place.line []) (place.column - 1)

-- The lines have there the bytes of the field.
abbrev pub FieldBytesAreThere : Type 0
FieldBytesAreThere =
    (card : List ℕ) (cards : List (List ℕ)) (j : Joined) → length card ≡ 71 → with_lines (begun card) cards ≡ Some j
    → map (byte_at (card ∷ cards)) (places_of card cards) ≡ j.text

-- A line of a script: without a carriage return before its line feed.
abbrev pub line_in : List ℕ → SourceLine → List ℕ
line_in script line =
    if nat_lt line.end (length script)
    then strip_carriage_return (take (line.end - line.start) (drop line.start script))
    else take (line.end - line.start) (drop line.start script)

-- Columns 1 to 71 of it,
abbrev pub card_in : List ℕ → SourceLine → List ℕ
card_in script line = used (line_in script line)

-- of the first of these lines, and of the others.
abbrev pub first_card : List ℕ → List SourceLine → List ℕ
first_card script [] = used []
first_card script (line ∷ lines) = card_in script line

abbrev pub further_cards : List ℕ → List SourceLine → List (List ℕ)
further_cards script lines = map (card_in script) (drop 1 lines)

-- The field that the code has gathered.
abbrev pub joined_of : Field → Joined
joined_of f = record { text = f.text.items; at = f.at; goes_on = f.goes_on }

-- It is the field over these lines, and has the place of each byte.
pub record IsFieldOver (card : List ℕ) (cards : List (List ℕ)) (f : Field) : Type 0 where
  pub joined : with_lines (begun card) cards ≡ Some (joined_of f)
  pub places : f.places.items ≡ places_of card cards

-- The faults that an operand has.
abbrev pub is_of_operand : FaultKind → Bool
is_of_operand fault.Column = false
is_of_operand fault.Continuation = false
is_of_operand fault.Operation = false
is_of_operand fault.Operand = true
is_of_operand fault.Repeated = true
is_of_operand fault.Missing = false
is_of_operand fault.Value = true
is_of_operand fault.LeftOut = true

-- Where the caret of a fault of the first line is, by its columns 1 to 71: in column 1, or where the operation begins,
-- if the line has one.
abbrev pub IsHeadPlace : List ℕ → FaultKind → TextPlace → Type 0
IsHeadPlace card fault.Column place = (place.line ≡ 0) × (place.column ≡ 1)
IsHeadPlace card fault.Operation place =
    0 < length (after_blanks (after_word card))
    → (place.line ≡ 0) × (place.column ≡ length card - length (after_blanks (after_word card)) + 1)
IsHeadPlace card fault.Continuation place = Unit {0}
IsHeadPlace card fault.Operand place = Unit {0}
IsHeadPlace card fault.Repeated place = Unit {0}
IsHeadPlace card fault.Missing place = Unit {0}
IsHeadPlace card fault.Value place = Unit {0}
IsHeadPlace card fault.LeftOut place = Unit {0}

-- A statement over these lines, whose continuation breaks no rule, has this fault of an operand: then the caret is that
-- of the first operand with which it has the fault, and is at the place of its first byte, if it has one.
abbrev pub MarksOperand : List ℕ → List (List ℕ) → FaultKind → Caret → Type 0
MarksOperand card cards kind caret =
    (j : Joined) → with_lines (begun card) cards ≡ Some j → statement_with card j.text ≡ Err kind
    → is_of_operand kind ≡ true
    → IsWrongOperand card j.text kind caret.from caret.to
    × (caret.from < length j.text → slice_get (places_of card cards) caret.from ≡ Some caret.place)

-- A statement over these lines, whose continuation breaks no rule, has this fault; the caret is that of the first
-- operand with which it has the fault, is at the place of its first byte, if it has one, and keeps the place of each
-- byte of the field.
pub record IsOperandCaret (card : List ℕ) (cards : List (List ℕ)) (kind : FaultKind) (caret : Caret) : Type 0 where
  pub joined : Joined
  pub joins : with_lines (begun card) cards ≡ Some joined
  pub fault : statement_with card joined.text ≡ Err kind
  pub wrong : IsWrongOperand card joined.text kind caret.from caret.to
  pub place : caret.from < length joined.text → slice_get (places_of card cards) caret.from ≡ Some caret.place
  pub places : caret.field.places.items ≡ places_of card cards

-- A statement over these lines, whose continuation breaks no rule, has this fault, if it's one of an operand.
abbrev pub HasFault : List ℕ → List (List ℕ) → FaultKind → Type 0
HasFault card cards kind =
    is_of_operand kind ≡ true
    → (j : Joined) × (with_lines (begun card) cards ≡ Some j) × (statement_with card j.text ≡ Err kind)

-- The caret of a fault over these lines; if it's one of an operand, a statement over them has it.
abbrev pub IsCaretOf : List ℕ → List (List ℕ) → FaultKind → Caret → Type 0
IsCaretOf card cards kind caret =
    (caret.card ≡ card) × (is_of_operand kind ≡ true → IsOperandCaret card cards kind caret)

-- How many bytes of the wrong operand are on the caret's line,
abbrev pub operand_bytes : Caret → ℕ
operand_bytes caret =
    length (take_while (λ p. p.line == caret.place.line)
    (take (caret.to - caret.from) (drop caret.from caret.field.places.items)))

-- and how many the word has that begins at the caret, on the statement's first line.
abbrev pub word_bytes : Caret → ℕ
word_bytes caret = word_len (drop (min (caret.place.column - 1) 71) caret.card)

-- How many bytes a caret marks: those of the operand, or of the word in column 1 or of the operation; one at least.
abbrev pub caret_width : FaultKind → Caret → ℕ
caret_width fault.Column caret = max (word_bytes caret) 1
caret_width fault.Continuation caret = 1
caret_width fault.Operation caret = max (word_bytes caret) 1
caret_width fault.Operand caret = max (operand_bytes caret) 1
caret_width fault.Repeated caret = max (operand_bytes caret) 1
caret_width fault.Missing caret = 1
caret_width fault.Value caret = max (operand_bytes caret) 1
caret_width fault.LeftOut caret = max (operand_bytes caret) 1
