-- The rows of a listing around its answers: each a line of text, or an object of JSON.
use Rattle.std.specs.Prelude.{◌≡◌, ◌≤◌, ◌⊎◌, ℕ, ◌+◌, ◌-◌, min, List, [], ◌∷◌, ◌++◌, length, take, drop, codes}
use Rattle.std.specs.Prelude.{if◌then◌else◌, nat_lt, slice_get, slice_index, slice_index_or, Some, None}
use Rattle.std.specs.Prelude.{Bool, Option, false, replicate, true}
use Rattle.std.specs.Fmt.{decimal}
use Rattle.std.specs.List.{flat_map, AllByRecursion}
use Rattle.explain_text.specs.Columns.{column}
use Rattle.explain_text.specs.Json.{bytes_in, json_name, number_field, object_end, object_start, shown_in, string_field}
use Rattle.explain_text.specs.Letters.{column_of, shown}
use Rattle.explain_text.specs.declared.json.Form.{Form}
use Rattle.explain_text.specs.declared.json.Form.TheVariants as form
use Rattle.macro_operands.specs.declared.faults.FaultKind.{FaultKind}
use Rattle.script_steps.specs.Responses.{fault_word, response_text}
use Rattle.script_steps.specs.Script.{NoFeed, with_feed}
use Rattle.script_steps.specs.declared.responses.Response.{Response}
use Rattle.explain_faults.specs.Places.{caret_width, first_card, further_cards, line_in, HasFault, IsCaretOf}
use Rattle.explain_faults.specs.Places.{IsHeadPlace}
use Rattle.explain_faults.specs.declared.carets.Caret.{Caret}
use Rattle.explain_faults.specs.declared.lines.SourceLine.{SourceLine}
use Rattle.text_output.specs.Writing.{Puts}
use Rattle.text_output.specs.declared.writing.Gathered.{Gathered}

-- The byte in column 72 of a line: a blank if it's shorter.
abbrev pub column_72 : List ℕ → ℕ
column_72 line = slice_index_or line 71 32

-- Why a line of this number isn't carried out, by the line before it.
abbrev pub loss_in : Form → ℕ → List ℕ → List ℕ
loss_in f number before =
    codes "NOT CARRIED OUT: line " ++ (decimal (number - 1)
    ++ (codes " has '" ++ (shown_in f (column_72 before ∷ []) ++ codes "' in column 72")))

abbrev pub loss_text : ℕ → List ℕ → List ℕ
loss_text = loss_in form.Text

-- What is said of a statement or a line, before free words.
pub data Remark : Type 0 where
  of_fault : FaultKind → Remark
  of_warning : Remark
  of_loss : ℕ → List ℕ → Remark
  of_refusal : Response → Remark

abbrev pub remark_text : Remark → List ℕ
remark_text (of_fault kind) = fault_word kind ++ codes ": "
remark_text of_warning = codes "WARNING: "
remark_text (of_loss number before) = loss_text number before
remark_text (of_refusal answer) = response_text [] answer ++ codes ": "

-- The word that is proposed, if it isn't empty;
abbrev pub proposal_in : Form → List ℕ → List ℕ
proposal_in f [] = []
proposal_in f (c ∷ cs) = codes "; " ++ (bytes_in f (c ∷ cs) ++ codes "?")

-- free words, and such a word.
abbrev pub words_in : Form → List ℕ → List ℕ → List ℕ
words_in f words hint = bytes_in f words ++ proposal_in f hint

-- Two points stand for what is longer than 80 bytes.
abbrev pub more_text : List ℕ → List ℕ
more_text line = if nat_lt 80 (length line) then codes ".." else []

-- A line of the script: its number, this mark, and its first 80 bytes as they're shown.
abbrev pub line_text : ℕ → List ℕ → List ℕ → List ℕ
line_text number mark line = column 7 number ++ (mark ++ (shown (take 80 line) ++ more_text line))

-- A caret below the byte in this column of a line, counted in bytes from 1; at most below the place after 80 bytes.
abbrev pub pointer_text : List ℕ → ℕ → List ℕ
pointer_text line place =
    replicate 9 32 ++ (replicate (column_of (take 80 line) (min (place - 1) 80)) 32 ++ codes "^ ")

-- What is wrong with a statement: the fault's word, free words, and a word that is proposed;
abbrev pub fault_text : FaultKind → List ℕ → List ℕ → List ℕ
fault_text kind words hint = remark_text (of_fault kind) ++ (words_in form.Text words hint ++ 10 ∷ [])

-- and a warning.
abbrev pub warning_text : List ℕ → List ℕ
warning_text words = remark_text of_warning ++ (words ++ 10 ∷ [])

-- The place of a range in the script, as an object has it: its line, its first column, and the column after its last.
-- Columns count bytes, from 1; no line has more than 65,536.
abbrev pub place_fields : ℕ → ℕ → ℕ → List ℕ
place_fields number place width =
    number_field (codes "line") number
    ++ (number_field (codes "column") (min place 100000)
    ++ number_field (codes "end") (min place 100000 + min width 100000))

-- The free words of an object, with the word that is proposed,
abbrev pub words_field : List ℕ → List ℕ → List ℕ
words_field words hint = json_name (codes "text") ++ (codes "\"" ++ (words_in form.Json words hint ++ codes "\""))

-- and that word, if there is one.
abbrev pub hint_field : List ℕ → List ℕ
hint_field [] = []
hint_field (c ∷ cs) = string_field (codes "hint") (c ∷ cs)

abbrev pub fault_object : ℕ → ℕ → ℕ → FaultKind → List ℕ → List ℕ → List ℕ
fault_object number place width kind words hint =
    object_start (codes "fault")
    ++ (place_fields number place width
    ++ (string_field (codes "fault") (fault_word kind) ++ (words_field words hint ++ (hint_field hint ++ object_end))))

abbrev pub warning_object : ℕ → ℕ → ℕ → List ℕ → List ℕ
warning_object number place width words =
    object_start (codes "warning") ++ (place_fields number place width ++ (words_field words [] ++ object_end))

-- A line that isn't carried out, by the line before it.
abbrev pub dropped_object : ℕ → List ℕ → List ℕ → List ℕ
dropped_object number line before =
    object_start (codes "dropped")
    ++ (place_fields number 1 (length line)
    ++ (json_name (codes "text")
    ++ (codes "\"" ++ (loss_in form.Json number before ++ (codes "\"" ++ object_end)))))

-- A row: a line of the script; one that isn't carried out, with the line before it; a fault or a warning, with its
-- line, its column, how many bytes it marks there, free words, and for a fault a word that is proposed; or a warning on
-- the whole file.
pub data Row : Type 0 where
  source : SourceLine → Row
  lost : SourceLine → SourceLine → Row
  faulty : SourceLine → ℕ → ℕ → FaultKind → List ℕ → List ℕ → Row
  warned : SourceLine → ℕ → ℕ → List ℕ → Row
  on_file : List ℕ → Row

abbrev pub row_text : List ℕ → Row → List ℕ
row_text script (source line) = line_text line.number (codes "  ") (line_in script line) ++ codes "\n"
row_text script (lost line before) =
    line_text line.number (codes " x") (line_in script line)
    ++ (codes "      <== " ++ (loss_text line.number (line_in script before) ++ codes "\n"))
row_text script (faulty line place width kind words hint) =
    pointer_text (line_in script line) place ++ fault_text kind words hint
row_text script (warned line place width words) = pointer_text (line_in script line) place ++ warning_text words
row_text script (on_file words) = warning_text words

-- A line of the script by itself is no object.
abbrev pub row_json : List ℕ → Row → List ℕ
row_json script (source line) = []
row_json script (lost line before) = dropped_object line.number (line_in script line) (line_in script before)
row_json script (faulty line place width kind words hint) = fault_object line.number place width kind words hint
row_json script (warned line place width words) = warning_object line.number place width words
row_json script (on_file words) = warning_object 1 1 0 words

abbrev pub row_in : Form → List ℕ → Row → List ℕ
row_in form.Text script r = row_text script r
row_in form.Json script r = row_json script r

-- A line of the script: some lines, each with its line feed, are before it, and a line feed or nothing after it.
pub record IsLineAt (script : List ℕ) (line : SourceLine) : Type 0 where
  pub before : List (List ℕ)
  pub each : AllByRecursion NoFeed before
  pub few : length before ≤ 1048576
  pub number : line.number ≡ length before + 1
  pub starts : take line.start script ≡ flat_map with_feed before
  pub order : line.start ≤ line.end
  pub within : line.end ≤ length script
  pub plain : NoFeed (take (line.end - line.start) (drop line.start script))
  pub ends : (line.end ≡ length script) ⊎ (slice_index script line.end ≡ 10)

-- The line before one.
abbrev pub IsLineBefore : List ℕ → SourceLine → SourceLine → Type 0
IsLineBefore script line before = IsLineAt script before × (before.number + 1 ≡ line.number)

-- A row is on a line of the script, and free words end no line.
abbrev pub IsRowOf : List ℕ → Row → Type 0
IsRowOf script (source line) = IsLineAt script line
IsRowOf script (lost line before) = IsLineAt script line × IsLineBefore script line before
IsRowOf script (faulty line place width kind words hint) =
    IsLineAt script line × NoFeed words × NoFeed hint
IsRowOf script (warned line place width words) = IsLineAt script line × NoFeed words
IsRowOf script (on_file words) = NoFeed words

-- The lines of the script among rows.
abbrev pub lines_of : List Row → List SourceLine
lines_of [] = []
lines_of (source line ∷ rows) = line ∷ lines_of rows
lines_of (lost line before ∷ rows) = line ∷ lines_of rows
lines_of (faulty line place width kind words hint ∷ rows) = lines_of rows
lines_of (warned line place width words ∷ rows) = lines_of rows
lines_of (on_file words ∷ rows) = lines_of rows

-- Whether each of them isn't carried out.
abbrev pub losses_of : List Row → List Bool
losses_of [] = []
losses_of (source line ∷ rows) = false ∷ losses_of rows
losses_of (lost line before ∷ rows) = true ∷ losses_of rows
losses_of (faulty line place width kind words hint ∷ rows) = losses_of rows
losses_of (warned line place width words ∷ rows) = losses_of rows
losses_of (on_file words ∷ rows) = losses_of rows

-- A caret: the line that it's on, its column, how many bytes it marks there, and the fault.
pub record Mark : Type 0 where
  pub line : SourceLine
  pub place : ℕ
  pub width : ℕ
  pub kind : FaultKind

-- The carets among rows,
abbrev pub marks_of : List Row → List Mark
marks_of [] = []
marks_of (source line ∷ rows) = marks_of rows
marks_of (lost line before ∷ rows) = marks_of rows
marks_of (faulty line place width kind words hint ∷ rows) =
    record { line = line; place = place; width = width; kind = kind } ∷ marks_of rows
marks_of (warned line place width words ∷ rows) = marks_of rows
marks_of (on_file words ∷ rows) = marks_of rows

-- that of the code,
abbrev pub mark_of : SourceLine → Caret × FaultKind → Mark
mark_of line f = record { line = line; place = f.0.place.column; width = caret_width f.1 f.0; kind = f.1 }

-- and the one on a line, if there is one.
abbrev pub marks_on : SourceLine → Option (Caret × FaultKind) → List Mark
marks_on line None = []
marks_on line (Some f) = mark_of line f ∷ []

-- The caret is that of a fault over these lines, and on one of them.
pub record IsMarkAt (script : List ℕ) (lines : List SourceLine) (mark : Mark) : Type 0 where
  pub caret : Caret
  pub own : IsCaretOf (first_card script lines) (further_cards script lines) mark.kind caret
  pub head : IsHeadPlace (first_card script lines) mark.kind caret.place
  pub on : slice_get lines caret.place.line ≡ Some mark.line
  pub column : mark.place ≡ caret.place.column
  pub width : mark.width ≡ caret_width mark.kind caret

-- A fault has no caret only if no lines are shown with it, or lines that are no statement with this fault.
abbrev pub LacksMark : List ℕ → List SourceLine → Option FaultKind → Type 0
LacksMark script lines None = Unit {0}
LacksMark script [] (Some kind) = Unit {0}
LacksMark script (line ∷ lines) (Some kind) =
    HasFault (first_card script (line ∷ lines)) (further_cards script (line ∷ lines)) kind → ⊥

-- If there is a fault over these lines, there is its caret, and no other.
abbrev pub AreMarksOf : List ℕ → List SourceLine → Option FaultKind → List Mark → Type 0
AreMarksOf script lines None [] = Unit {0}
AreMarksOf script lines (Some kind) (mark ∷ []) = (kind ≡ mark.kind) × IsMarkAt script lines mark
AreMarksOf script lines _ _ = ⊥

-- Rows were put in this form, with these lines of the script, of which these aren't carried out, and these carets among
-- them.
abbrev pub PutsRows : Form → List ℕ → List SourceLine → List Bool → List Mark → Option (List ℕ) → Option (List ℕ)
    → Gathered → Gathered → Type 0
PutsRows f script lines losses marks old new before after =
    (rows : List Row) × AllByRecursion (IsRowOf script) rows × (lines_of rows ≡ lines) × (losses_of rows ≡ losses)
    × (marks_of rows ≡ marks)
    × Puts old new before after (flat_map (row_in f script) rows)
