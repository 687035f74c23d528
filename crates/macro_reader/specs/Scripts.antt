-- The grammar of a script: its lines fall into parts, one after another, and each part has at most one answer.
use Rattle.std.specs.Prelude.{◌≡◌, ℕ, ◌+◌, ◌-◌, ◌^◌, ◌≤◌, ◌⊎◌, ◌==◌, min, Bool, true, false, List, [], ◌∷◌, ◌++◌}
use Rattle.std.specs.Prelude.{length, map, Option, Some, None, Result, Ok, Err, ⊤}
use Rattle.std.specs.List.{flat_map, AllByRecursion}
use Rattle.macro_reader.specs.Columns.{Line, used, is_continued, is_skipped}
use Rattle.macro_statements.specs.Requests.{Asked, asked_in, IsValidAsked}
use Rattle.macro_statements.specs.Statements.{statement_with}
use Rattle.macro_reader.specs.Continuation.{Joined, begun, with_line, with_lines}
use Rattle.macro_operands.specs.declared.faults.FaultKind.{FaultKind}
use Rattle.macro_operands.specs.declared.faults.FaultKind.TheVariants as kind
use Rattle.macro_reader.specs.declared.reading.Fault.{Fault}
use Rattle.macro_reader.specs.declared.reading.Fed.{Fed}
use Rattle.macro_reader.specs.declared.reading.Fed.TheVariants as fed

-- A request or a fault, with the number of the statement's first line.
pub record Answer : Type 0 where
  pub line : ℕ
  pub what : Result Asked FaultKind

-- A comment or empty line; a statement with its continuation lines; a statement with those continuation lines that are
-- accepted, the one that breaks a rule of continuation, and the lines that are dropped after it.
pub data Part : Type 0 where
  skipped : Line → Part
  whole : Line → List Line → Part
  broken : Line → List Line → Line → List Line → Part

-- Each of these lines is continued.
abbrev pub AllContinued : List Line → Type 0
AllContinued lines = AllByRecursion (λ l. is_continued l ≡ true) lines

-- Each line of a statement, or of those that are dropped after a broken one, is continued, except the last.
abbrev pub IsGroup : Line → List Line → Type 0
IsGroup line [] = is_continued line ≡ false
IsGroup line (next ∷ lines) = (is_continued line ≡ true) × IsGroup next lines

-- The same, if the last is continued too.
abbrev pub IsDropping : Line → List Line → Type 0
IsDropping line [] = is_continued line ≡ true
IsDropping line (next ∷ lines) = (is_continued line ≡ true) × IsDropping next lines

-- A rule of continuation is broken at a line after a first line and these continuation lines, which have this field: a
-- rule of columns, or a tenth continuation line would follow the line.
abbrev pub IsBreak : Joined → List Line → Line → Type 0
IsBreak j before line = (with_line j (used line) ≡ None) ⊎ ((length before ≡ 8) × (is_continued line ≡ true))

-- What makes a part. A statement has at most nine continuation lines (High Level Assembler Language Reference,
-- "Continuation lines").
abbrev pub IsPart : Part → Type 0
IsPart (skipped line) = is_skipped line ≡ true
IsPart (whole line lines) =
    (is_skipped line ≡ false) × IsGroup line lines × (length lines ≤ 9)
    × (j : Joined) × (with_lines (begun (used line)) (map used lines) ≡ Some j)
IsPart (broken line before at dropped) =
    (is_skipped line ≡ false) × AllContinued (line ∷ before)
    × ((j : Joined) × (with_lines (begun (used line)) (map used before) ≡ Some j) × IsBreak j before at)
    × IsGroup at dropped × (length before ≤ 8)

-- The lines of a part.
abbrev pub lines_of : Part → List Line
lines_of (skipped line) = line ∷ []
lines_of (whole line lines) = line ∷ lines
lines_of (broken line before at dropped) = line ∷ (before ++ at ∷ dropped)

-- The request of a statement or its fault, by columns 1 to 71 of its first line and its field.
abbrev pub said_by : List ℕ → Option Joined → Result Asked FaultKind
said_by card None = Err kind.Continuation
said_by card (Some j) = statement_with card j.text

-- Lines are numbered from 1, and the numbers stay at 4,294,967,295.
abbrev pub number_behind : ℕ → ℕ
number_behind before = min (before + 1) (2 ^ 32 - 1)

-- The answer to a part after this many lines.
abbrev pub answer_to : ℕ → Part → List Answer
answer_to before (skipped line) = []
answer_to before (whole line lines) =
    record { line = number_behind before; what = said_by (used line) (with_lines (begun (used line)) (map used lines)) }
    ∷ []
answer_to before (broken line lines at dropped) =
    record { line = number_behind before; what = Err kind.Continuation } ∷ []

-- The answers to parts after this many lines.
abbrev pub answers_behind : ℕ → List Part → List Answer
answers_behind before [] = []
answers_behind before (part ∷ parts) = answer_to before part ++ answers_behind (before + length (lines_of part)) parts

-- The lines are these parts, and have these answers.
pub record Reads (lines : List Line) (answers : List Answer) (parts : List Part) : Type 0 where
  pub each : AllByRecursion IsPart parts
  pub split : lines ≡ flat_map lines_of parts
  pub told : answers ≡ answers_behind 0 parts

-- The lines are whole parts, and then a statement that is open: its lines so far are accepted, and each is continued.
pub record Gathers (lines : List Line) (answers : List Answer) (number : ℕ) (card : List ℕ) (j : Joined) (count : ℕ)
    : Type 0 where
  pub parts : List Part
  pub reads : Reads (flat_map lines_of parts) answers parts
  pub first : Line
  pub before : List Line
  pub split : lines ≡ flat_map lines_of parts ++ first ∷ before
  pub begins : is_skipped first ≡ false
  pub continued : AllContinued (first ∷ before)
  pub joins : with_lines (begun (used first)) (map used before) ≡ Some j
  pub numbered : number ≡ number_behind (length (flat_map lines_of parts))
  pub card_is : card ≡ used first
  pub counted : count ≡ length before
  pub few : count ≤ 8

-- The lines are whole parts, and then a broken statement with what is dropped so far.
pub record Drops (lines : List Line) (answers : List Answer) : Type 0 where
  pub parts : List Part
  pub whole_answers : List Answer
  pub reads : Reads (flat_map lines_of parts) whole_answers parts
  pub first : Line
  pub before : List Line
  pub at : Line
  pub dropped : List Line
  pub split : lines ≡ flat_map lines_of parts ++ first ∷ (before ++ at ∷ dropped)
  pub begins : is_skipped first ≡ false
  pub continued : AllContinued (first ∷ before)
  pub breaks : (j : Joined) × (with_lines (begun (used first)) (map used before) ≡ Some j) × IsBreak j before at
  pub drops : IsDropping at dropped
  pub few : length before ≤ 8
  pub told : answers
      ≡ whole_answers
      ++ record { line = number_behind (length (flat_map lines_of parts)); what = Err kind.Continuation } ∷ []

-- The lines of a script that has ended are whole parts, and then a statement that is still open, whose fault is
-- Continuation.
pub record Opens (lines : List Line) (answers : List Answer) : Type 0 where
  pub whole_answers : List Answer
  pub number : ℕ
  pub card : List ℕ
  pub joined : Joined
  pub count : ℕ
  pub gathers : Gathers lines whole_answers number card joined count
  pub told : answers ≡ whole_answers ++ record { line = number; what = Err kind.Continuation } ∷ []

-- The answers to the lines of a script that has ended: whole parts; or those and a broken statement at the end, or one
-- that is still open.
abbrev pub Answers : List Line → List Answer → Type 0
Answers lines answers = ((parts : List Part) × Reads lines answers parts) ⊎ (Drops lines answers ⊎ Opens lines answers)

-- The state of a reader between two lines: it awaits a statement, or drops the lines after a broken one, or has an open
-- statement, of which it keeps the number and the columns of the first line, the field, and the count of the
-- continuation lines.
pub data Mode : Type 0 where
  awaiting : Mode
  dropping : Mode
  gathering : ℕ → List ℕ → Joined → ℕ → Mode

-- The answers to the lines so far of a script, for a reader in this state.
abbrev pub Between : Mode → List Line → List Answer → Type 0
Between awaiting lines answers = (parts : List Part) × Reads lines answers parts
Between dropping lines answers = Drops lines answers
Between (gathering number card j count) lines answers = Gathers lines answers number card j count

-- What a reader keeps of the lines so far: their count, and its state.
pub record Kept : Type 0 where
  pub count : ℕ
  pub mode : Mode

-- A reader that keeps this was fed these lines, and gave these answers.
pub record IsBehind (lines : List Line) (answers : List Answer) (kept : Kept) : Type 0 where
  pub counted : kept.count ≡ min (length lines) (2 ^ 32 - 1)
  pub between : Between kept.mode lines answers

-- What a line made a reader answer.
abbrev pub told_by : Result Fed Fault → List Answer
told_by (Ok fed.More) = []
told_by (Ok (fed.Ready request line)) = record { line = line; what = Ok (asked_in request) } ∷ []
told_by (Err fault) = record { line = fault.line; what = Err fault.kind } ∷ []

-- What the end made a reader answer.
abbrev pub told_at_end : Result (Unit {0}) Fault → List Answer
told_at_end (Ok u) = []
told_at_end (Err fault) = record { line = fault.line; what = Err fault.kind } ∷ []

-- A request that a reader answers is one that a line can spell.
abbrev pub IsValidFed : Result Fed Fault → Type 0
IsValidFed (Ok fed.More) = ⊤
IsValidFed (Ok (fed.Ready request line)) = IsValidAsked (asked_in request)
IsValidFed (Err fault) = ⊤

-- The state of a reader after a line that it drops or breaks off at, by whether that line is continued.
abbrev pub behind_break : Bool → Mode
behind_break true = dropping
behind_break false = awaiting

-- How a line moves a reader that awaits a statement, by whether the line is skipped and whether it is continued.
abbrev pub idle_with : Bool → Bool → ℕ → Line → Mode × List Answer
idle_with true continued number line = (awaiting, [])
idle_with false true number line = (gathering number (used line) (begun (used line)) 0, [])
idle_with false false number line =
    (awaiting, record { line = number; what = statement_with (used line) (begun (used line)).text } ∷ [])

-- How a line moves a reader that has an open statement, by the field with the line, whether the line is continued, and
-- whether it is the ninth continuation line.
abbrev pub gathered_with : Option Joined → Bool → Bool → ℕ → List ℕ → ℕ → Mode × List Answer
gathered_with None continued ninth number card count =
    (behind_break continued, record { line = number; what = Err kind.Continuation } ∷ [])
gathered_with (Some j) false ninth number card count =
    (awaiting, record { line = number; what = statement_with card j.text } ∷ [])
gathered_with (Some j) true true number card count =
    (dropping, record { line = number; what = Err kind.Continuation } ∷ [])
gathered_with (Some j) true false number card count = (gathering number card j (count + 1), [])

-- How a line with this number moves a reader, and what it answers.
abbrev pub moved : ℕ → Mode → Line → Mode × List Answer
moved number awaiting line = idle_with (is_skipped line) (is_continued line) number line
moved number dropping line = (behind_break (is_continued line), [])
moved number (gathering n card j count) line =
    gathered_with (with_line j (used line)) (is_continued line) (count == 8) n card count
