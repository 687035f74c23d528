-- The lines of a check: each on a place of the file.
use Rattle.std.specs.Prelude.{◌≡◌, ℕ, ◌+◌, min, Bool, true, false, List, [], ◌∷◌, ◌++◌, codes, map, Option, Some, None}
use Rattle.std.specs.Fmt.{decimal}
use Rattle.std.specs.List.{flat_map, AllByRecursion}
use Rattle.bench_core.specs.Refusal.{Refusal}
use Rattle.bench_core.specs.Refusal.TheVariants as refusal
use Rattle.macro_operands.specs.declared.faults.FaultKind.{FaultKind}
use Rattle.script_steps.specs.Responses.{fault_word, response_text}
use Rattle.script_steps.specs.Script.{NoFeed}
use Rattle.script_steps.specs.declared.responses.Response.{Response}
use Rattle.script_steps.specs.declared.responses.Response.TheVariants as response
use Rattle.text_output.specs.Writing.{Puts}
use Rattle.text_output.specs.declared.writing.Gathered.{Gathered}
use Rattle.explain_text.specs.Json.{bytes_in, json_head, json_name, number_field, object_end, object_start}
use Rattle.explain_text.specs.Json.{string_field, truth_field}
use Rattle.explain_text.specs.declared.json.Form.{Form}
use Rattle.explain_text.specs.declared.json.Form.TheVariants as form
use Rattle.explain_findings.specs.Left.{Sum, sum_of}
use Rattle.explain_list.specs.Rows.{Mark, loss_in, words_in}
use Rattle.explain_check.specs.Findings.{Found, found_counts, found_released, found_text, found_took, found_word, left}
use Rattle.explain_check.specs.Findings.{left_in_all, outside, part, stale, unset}
use Rattle.explain_check.specs.declared.notes.Note.{Note as NoteOf}
use Rattle.explain_check.specs.declared.notes.Note.TheVariants as note
use Rattle.explain_check.specs.declared.rows.LinePlace.{LinePlace}
use Rattle.explain_check.specs.declared.rows.Manner.{Manner as MannerOf}
use Rattle.explain_check.specs.declared.rows.Spot.{Spot}

-- ---- what is said of a line

-- What is expected in place of a wrong operand, and the word that is proposed; that the line of this number isn't
-- carried out, by the line before it; a warning; an answer that is ABEND or REFUSED, and what decided; or what is
-- found.
pub data Note : Type 0 where
  faulty : FaultKind → List ℕ → List ℕ → Note
  lost : ℕ → List ℕ → Note
  warned : List ℕ → Note
  refused : Response → List ℕ → Note
  found : Found → Note

-- Free words end no line.
abbrev pub IsNote : Note → Type 0
IsNote (faulty kind words hint) = NoFeed words × NoFeed hint
IsNote (lost number before) = Unit {0}
IsNote (warned words) = NoFeed words
IsNote (refused answer words) = NoFeed words
IsNote (found f) = Unit {0}

abbrev pub note_text : Form → Note → List ℕ
note_text f (faulty kind words hint) = fault_word kind ++ (codes ": " ++ words_in f words hint)
note_text f (lost number before) = loss_in f number before
note_text f (warned words) = codes "WARNING: " ++ bytes_in f words
note_text f (refused answer words) = response_text [] answer ++ (codes ": " ++ bytes_in f words)
note_text f (found x) = found_text f x

-- what the last line says
abbrev pub sum_note : Sum → Note
sum_note sum = found (left_in_all sum)

-- its word
abbrev pub refusal_word_by : Refusal → List ℕ
refusal_word_by refusal.Name = codes "REFUSED"
refusal_word_by (refusal.Abend code) = codes "ABEND"
refusal_word_by refusal.NoMemory = codes "REFUSED"

abbrev pub refusal_word : Response → List ℕ
refusal_word (response.Refused why) = refusal_word_by why
refusal_word _ = codes "REFUSED"

abbrev pub note_word : Note → List ℕ
note_word (faulty kind words hint) = fault_word kind
note_word (lost number before) = codes "NOT CARRIED OUT"
note_word (warned words) = codes "WARNING"
note_word (refused answer words) = refusal_word answer
note_word (found f) = found_word f

-- whether it's wrong
abbrev pub note_counts : Note → Bool
note_counts (faulty kind words hint) = true
note_counts (lost number before) = true
note_counts (warned words) = false
note_counts (refused answer words) = true
note_counts (found f) = found_counts f

-- the lines that it names: one that took what it's about, and one that ended that
abbrev pub note_took : Note → Option ℕ
note_took (found f) = found_took f
note_took _ = None

abbrev pub note_released : Note → Option ℕ
note_released (found f) = found_released f
note_released _ = None

-- ---- a line

-- Its place in the file, the column after the last byte that it marks there, and what it says.
pub record CheckLine : Type 0 where
  pub number : ℕ
  pub place : ℕ
  pub end : ℕ
  pub said : Note

abbrev pub IsCheckLine : CheckLine → Type 0
IsCheckLine line = IsNote line.said

-- How lines go out: in this form; as text, each after this name of the file.
pub record Manner : Type 0 where
  pub form : Form
  pub name : List ℕ

abbrev pub position_text : List ℕ → ℕ → ℕ → List ℕ
position_text name number place =
    name ++ (codes ":" ++ (decimal number ++ (codes ":" ++ (decimal place ++ codes ": "))))

abbrev pub check_text : List ℕ → CheckLine → List ℕ
check_text name line =
    position_text name line.number line.place ++ (note_text form.Text line.said ++ codes "\n")

-- what a form begins with
abbrev pub head_in : Form → List ℕ
head_in form.Text = []
head_in form.Json = json_head (codes "check")

-- a field with the number of a line, if there is one
abbrev pub line_field : List ℕ → Option ℕ → List ℕ
line_field name None = []
line_field name (Some line) = number_field name line

abbrev pub place_fields : ℕ → ℕ → ℕ → List ℕ
place_fields number column end =
    number_field (codes "line") number
    ++ (number_field (codes "column") column ++ number_field (codes "end") end)

abbrev pub text_field : Note → List ℕ
text_field said = json_name (codes "text") ++ (codes "\"" ++ (note_text form.Json said ++ codes "\""))

abbrev pub lines_fields : Note → List ℕ
lines_fields said = line_field (codes "took") (note_took said) ++ line_field (codes "released") (note_released said)

abbrev pub check_object : CheckLine → List ℕ
check_object line =
    object_start (codes "finding")
    ++ (string_field (codes "word") (note_word line.said)
    ++ (place_fields line.number line.place line.end
    ++ (text_field line.said
    ++ (truth_field (codes "counts") (note_counts line.said) ++ (lines_fields line.said ++ object_end)))))

abbrev pub row_in : Form → List ℕ → CheckLine → List ℕ
row_in form.Text name line = check_text name line
row_in form.Json name line = check_object line

abbrev pub check_row : Manner → CheckLine → List ℕ
check_row manner line = row_in manner.form manner.name line

-- ---- the same as the code has it

abbrev pub note_of : NoteOf → Note
note_of (note.Fault kind hinted) = faulty kind hinted.words.now hinted.hint.now
note_of (note.Loss number before) = lost number before.now
note_of (note.Warning words) = warned words.now
note_of (note.Refusal answer words) = refused answer words.now
note_of (note.Outside o) = found (outside o.now)
note_of (note.Stale name line) = found (stale name.now line)
note_of (note.Part p) = found (part p)
note_of (note.Unset u) = found (unset u)
note_of (note.Left l) = found (left l.now)
note_of (note.LeftInAll sum) = found (left_in_all (sum_of sum.now))

abbrev pub manner_of : MannerOf → Manner
manner_of manner = record { form = manner.form; name = manner.name.now }

-- this many bytes from a column of a line on; no line has more than 65,536
abbrev pub place_on : ℕ → ℕ → ℕ → LinePlace
place_on number column width =
    record { number = number; column = min column 100000; end = min column 100000 + min width 100000 }

abbrev pub line_at : LinePlace → Note → CheckLine
line_at at said = record { number = at.number; place = at.column; end = at.end; said = said }

abbrev pub row_at : Spot → Note → List ℕ
row_at spot said = check_row (manner_of spot.manner) (line_at spot.place said)

-- ---- the faults, the refusals, and what is found, among lines

-- A fault that is said of a place: the number of the line, the column and the kind;
abbrev pub fault_noted : ℕ → ℕ → Note → List (ℕ × (ℕ × FaultKind))
fault_noted number place (faulty kind words hint) = (number, (place, kind)) ∷ []
fault_noted number place _ = []

-- those among lines,
abbrev pub faults_of : List CheckLine → List (ℕ × (ℕ × FaultKind))
faults_of [] = []
faults_of (line ∷ lines) = fault_noted line.number line.place line.said ++ faults_of lines

-- and that of a caret.
abbrev pub fault_at_mark : Mark → ℕ × (ℕ × FaultKind)
fault_at_mark mark = (mark.line.number, (min mark.place 100000, mark.kind))

-- A refusal that is said: the number of the line, the answer, and what decided;
pub record Said : Type 0 where
  pub number : ℕ
  pub answer : Response
  pub words : List ℕ

abbrev pub refusal_noted : ℕ → Note → List Said
refusal_noted number (refused answer words) = record { number = number; answer = answer; words = words } ∷ []
refusal_noted number _ = []

-- those among lines,
abbrev pub refusals_of : List CheckLine → List Said
refusals_of [] = []
refusals_of (line ∷ lines) = refusal_noted line.number line.said ++ refusals_of lines

-- and that of an answer: ABEND or REFUSED, with the number of the statement's first line.
abbrev pub refusal_in : ℕ → Response → Option (ℕ × Response)
refusal_in number (response.Replied r) = None
refusal_in number (response.Refused why) = Some (number, response.Refused why)
refusal_in number response.Shown = None
refusal_in number (response.Kept n) = None
refusal_in number (response.TooFar n) = Some (number, response.TooFar n)
refusal_in number (response.TooFarAhead n) = Some (number, response.TooFarAhead n)
refusal_in number response.Map = None
refusal_in number (response.Fault kind) = None

abbrev pub refusal_told : Option (ℕ × Response) → Option (ℕ × Response)
refusal_told None = None
refusal_told (Some told) = refusal_in told.0 told.1

-- What is found, that is said, and that among lines.
abbrev pub found_noted : Note → List Found
found_noted (found f) = f ∷ []
found_noted _ = []

abbrev pub found_in : List CheckLine → List Found
found_in [] = []
found_in (line ∷ lines) = found_noted line.said ++ found_in lines

-- A line for a refusal was put, with free words.
abbrev pub PutsRefusal : Spot → Response → Option (List ℕ) → Option (List ℕ) → Gathered → Gathered → Type 0
PutsRefusal spot answer old new before after =
    (words : List ℕ) × NoFeed words × Puts old new before after (row_at spot (refused answer words))

-- Lines on places in a file were put, with the faults of these carets, these refusals and this that is found among
-- them, and no others.
abbrev pub PutsChecks : Manner → List Mark → List Said → List Found → Option (List ℕ) → Option (List ℕ) → Gathered
    → Gathered → Type 0
PutsChecks manner marks said finds old new before after =
    (lines : List CheckLine) × AllByRecursion IsCheckLine lines × (faults_of lines ≡ map fault_at_mark marks)
    × (refusals_of lines ≡ said) × (found_in lines ≡ finds)
    × Puts old new before after (flat_map (check_row manner) lines)
