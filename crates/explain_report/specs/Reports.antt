-- A report of a script: what it says of its statement, and the table of the storage after a statement.
use Rattle.std.specs.Prelude.{◌≡◌, ◌<◌, ◌≤◌, ◌⊎◌, ℕ, nat_le, Bool, true, false, not, ◌&&◌, List, [], ◌∷◌}
use Rattle.std.specs.Prelude.{◌++◌, length, map, take, is_some}
use Rattle.std.specs.Prelude.{drop, Option, Some, None, Result, Ok, Err}
use Rattle.std.specs.Io.KnownBytes.{Appends}
use Rattle.vsm_model.specs.declared.limits.Settings.{Settings}
use Rattle.vsm_model.specs.State.{State}
use Rattle.explain_text.specs.declared.json.Form.{Form}
use Rattle.macro_reader.specs.Scripts.{IsBehind, Kept, Mode, awaiting, dropping, gathering}
use Rattle.vsm_model.specs.Standing.{nothing_stands}
use Rattle.script_steps.specs.Output.{AllMet, Marked}
use Rattle.script_steps.specs.Steps.{IsLineOf}
use Rattle.script_steps.specs.Run.{IsNewFault}
use Rattle.script_steps.specs.Script.{NoFeed, Within, columns}
use Rattle.script_steps.specs.Taken.{Took, Ended, PassesBound, Brings, answers_of}
use Rattle.script_steps.specs.declared.responses.Response.{Response}
use Rattle.script_steps.specs.declared.session.Session.{Session}
use Rattle.script_steps.specs.declared.session.TooLong.{TooLong}
use Rattle.script_steps.specs.declared.steps.Step.{Step}
use Rattle.text_output.specs.Writing.{AppendsFront}
use Rattle.explain_report.specs.Lines.{feeds, is_open, line_count}
use Rattle.explain_report.specs.Said.{state_after, said_last, said_by, is_between}
use Rattle.explain_report.specs.SaidTexts.{head_in, said_in}
use Rattle.explain_report.specs.Tables.{IsTable}
use Rattle.explain_report.specs.declared.faults.ReportFault.{ReportFault}
use Rattle.explain_report.specs.declared.faults.ReportFault.TheVariants as fault
use Rattle.explain_report.specs.declared.runs.LastAnswer.{LastAnswer}
use Rattle.explain_report.specs.declared.runs.TakenTo.{TakenTo}
use Rattle.explain_report.specs.declared.runs.TakenTo.TheVariants as taken_to

-- The text is a report of this state in this form, which says this of its statement;
abbrev pub IsReport : Settings → Form → State → Option (ℕ × List ℕ) → List ℕ → Type 0
IsReport settings form state said text =
    (table : List ℕ) × IsTable settings form state table × (text ≡ head_in form ++ said_in form said ++ table)

-- all of one is written, or a prefix of one.
abbrev pub WritesReport : Settings → Form → State → Option (ℕ × List ℕ) → Option (List ℕ) → Option (List ℕ)
    → Result (Unit {0}) ReportFault → Type 0
WritesReport settings form state said at_first now (Ok u) =
    (text : List ℕ) × IsReport settings form state said text × Appends at_first now text
WritesReport settings form state said at_first now (Err fault.Write) =
    (text : List ℕ) × IsReport settings form state said text × AppendsFront at_first now text
WritesReport settings form state said at_first now (Err _) = ⊥

-- The session took these bytes with these answers, of which this was the last.
pub record IsReached (settings : Settings) (given : List ℕ) (s : Session) (last : LastAnswer) (answers : List Marked) :
    Type 0 where
  pub took : Took settings given answers s
  pub said : said_by last ≡ said_last settings answers

abbrev pub Reaches : Settings → List ℕ → Session → LastAnswer → Type 0
Reaches settings given s last = (answers : List Marked) × IsReached settings given s last answers

abbrev pub Passes : Settings → List ℕ → Type 0
Passes settings script = (answers : List Marked) × PassesBound settings script answers

-- The line from a place on is taken, if it has a line feed, and brings this answer, or none.
abbrev pub ReachesStep : Settings → List ℕ → ℕ → List Marked → Session → LastAnswer → Result (Option Step) TooLong
    → Type 0
ReachesStep settings script at answers s last (Ok (Some step)) =
    (more : List Marked) × Brings settings answers more step.told
    × IsReached settings (take step.next script) s last (answers ++ more)
ReachesStep settings script at answers s last (Ok None) = IsReached settings (take at script) s last answers
ReachesStep settings script at answers s last (Err e) = Passes settings script

-- All lines that have a line feed are taken.
abbrev pub ReachesLines : Settings → List ℕ → Session → LastAnswer → Result ℕ TooLong → Type 0
ReachesLines settings script s last (Ok at) = Reaches settings (take at script) s last
ReachesLines settings script s last (Err e) = Passes settings script

-- The rest of the script from a place on has no line feed, and a line begins at the place.
abbrev pub IsRestAt : List ℕ → ℕ → Type 0
IsRestAt script at =
    (at ≤ length script) × NoFeed (drop at script) × (is_open false (take at script) ≡ false)

abbrev pub IsRest : List ℕ → Result ℕ TooLong → Type 0
IsRest script (Ok at) = IsRestAt script at
IsRest script (Err e) = Unit {0}

-- Bytes of a script have these answers, and this is what a reader keeps then.
pub record IsRead (settings : Settings) (given : List ℕ) (answers : List Marked) (kept : Kept) : Type 0 where
  pub lines : List (List ℕ)
  pub rest : List ℕ
  pub within : Within given lines rest
  pub told : IsBehind (map columns lines) (answers_of answers) kept
  pub met : AllMet settings nothing_stands answers

-- A statement is open after this number of lines of the script.
abbrev pub IsOpenAfter : Settings → List ℕ → ℕ → Type 0
IsOpenAfter settings script k =
    (at : ℕ) × (answers : List Marked) × (kept : Kept) × (r : IsRead settings (take at script) answers kept)
    × (length r.lines ≡ k) × (is_between kept.mode ≡ false)

-- The statement that line n is of ends before this place: after the first line from n on after which no statement is
-- open. These are the answers up to there, and that line brought the last.
pub record EndsStatement (settings : Settings) (script : List ℕ) (n next : ℕ) (answers : List Marked) : Type 0 where
  pub at : ℕ
  pub line : IsLineOf script at next
  pub older : List Marked
  pub before : Kept
  pub read : IsRead settings (take at script) older before
  pub newest : Marked
  pub brought : answers ≡ older ++ newest ∷ []
  pub after : Kept
  pub read_on : IsRead settings (take next script) answers after
  pub far : n ≤ length read_on.lines
  pub ends : is_between after.mode ≡ true
  pub first : (k : ℕ) → n ≤ k → k < length read_on.lines → IsOpenAfter settings script k

-- The end of the script brought at least one of these answers.
pub record IsAnsweredEnd (settings : Settings) (script : List ℕ) (answers : List Marked) : Type 0 where
  pub older : List Marked
  pub before : Kept
  pub read : IsRead settings script older before
  pub first : Marked
  pub others : List Marked
  pub brought : answers ≡ older ++ first ∷ others

-- A line is asked for, and the end brings no answer.
abbrev pub lacks_answer : Option ℕ → Option (ℕ × Response) → Option (ℕ × Response) → Bool
lacks_answer line last open_one = is_some line && not (is_some last) && not (is_some open_one)

-- The session took the lines before a place, and after each line from n on a statement was open.
pub record StaysOpen (settings : Settings) (script : List ℕ) (n at : ℕ) (s : Session) (last : LastAnswer) :
    Type 0 where
  pub reaches : Reaches settings (take at script) s last
  pub open_since : (k : ℕ) → n ≤ k → k ≤ s.lines → IsOpenAfter settings script k

-- Why a line has no answer, by the mode of the reader before it: it's dropped, or it's a comment or empty.
abbrev pub silence : Mode → ReportFault
silence awaiting = fault.Aside
silence dropping = fault.Dropped
silence (gathering number card j count) = fault.Aside

-- The first line from n on after which no statement is open brings no answer;
pub record IsSilentLine (settings : Settings) (script : List ℕ) (n : ℕ) (f : ReportFault) : Type 0 where
  pub at : ℕ
  pub next : ℕ
  pub line : IsLineOf script at next
  pub answers : List Marked
  pub before : Kept
  pub read : IsRead settings (take at script) answers before
  pub after : Kept
  pub read_on : IsRead settings (take next script) answers after
  pub far : n ≤ length read_on.lines
  pub ends : is_between after.mode ≡ true
  pub first : (k : ℕ) → n ≤ k → k < length read_on.lines → IsOpenAfter settings script k
  pub why : f ≡ silence before.mode

-- or the end of the script, which has the line, brings none.
pub record IsSilentEnd (settings : Settings) (script : List ℕ) (f : ReportFault) : Type 0 where
  pub answers : List Marked
  pub before : Kept
  pub read : IsRead settings script answers before
  pub ended : Ended settings script answers
  pub why : f ≡ silence before.mode

-- The session took at least this many lines, and no statement is open.
abbrev pub ends_by : ℕ → Session → Bool
ends_by n s = nat_le n s.lines && is_between s.reader.mode

-- Lines are taken up to the end of the statement of line n; or all that have a line feed, if the script ends before.
abbrev pub ReachesLine : Settings → List ℕ → ℕ → Session → LastAnswer → Result TakenTo ReportFault → Type 0
ReachesLine settings script n s last (Ok (taken_to.Statement next)) =
    (answers : List Marked) × IsReached settings (take next script) s last answers
    × EndsStatement settings script n next answers
ReachesLine settings script n s last (Ok (taken_to.LastFeed at)) = StaysOpen settings script n at s last
ReachesLine settings script n s last (Err fault.TooLong) = Passes settings script
ReachesLine settings script n s last (Err fault.Aside) = IsSilentLine settings script n fault.Aside
ReachesLine settings script n s last (Err fault.Dropped) = IsSilentLine settings script n fault.Dropped
ReachesLine settings script n s last (Err _) = ⊥

abbrev pub IsRestOf : List ℕ → Result TakenTo ReportFault → Type 0
IsRestOf script (Ok (taken_to.LastFeed at)) = IsRestAt script at
IsRestOf script (Ok (taken_to.Statement next)) = next ≤ length script
IsRestOf script (Err e) = Unit {0}

-- The script has the line that is asked for, and after each of its lines from there on that have a line feed a
-- statement is open.
abbrev pub HasLine : Settings → List ℕ → Option ℕ → Type 0
HasLine settings script None = Unit {0}
HasLine settings script (Some asked) =
    (asked ≤ line_count script) × ((k : ℕ) → asked ≤ k → k ≤ feeds script → IsOpenAfter settings script k)

-- The same of the lines that a session took.
abbrev pub StaysTo : Settings → List ℕ → Option ℕ → Session → Type 0
StaysTo settings script None s = Unit {0}
StaysTo settings script (Some asked) s = (k : ℕ) → asked ≤ k → k ≤ s.lines → IsOpenAfter settings script k

-- The script has only n lines, or line 0 was asked for.
abbrev pub LacksLine : List ℕ → Option ℕ → ℕ → Type 0
LacksLine script None n = ⊥
LacksLine script (Some asked) n = (asked ≡ 0) ⊎ ((n ≡ line_count script) × (n < asked))

-- The answers after which a report is: those of the whole script; or, if a line of it is asked for, those up to the end
-- of its statement; and if the script ends before that, its end brings one of them.
abbrev pub AreReported : Settings → List ℕ → Option ℕ → List Marked → Type 0
AreReported settings script None answers = Ended settings script answers
AreReported settings script (Some n) answers =
    (HasLine settings script (Some n) × Ended settings script answers × IsAnsweredEnd settings script answers)
    ⊎ ((next : ℕ) × EndsStatement settings script n next answers)

-- The line that is asked for has no answer.
abbrev pub IsSilent : Settings → List ℕ → Option ℕ → ReportFault → Type 0
IsSilent settings script None f = ⊥
IsSilent settings script (Some n) f =
    IsSilentLine settings script n f ⊎ (HasLine settings script (Some n) × IsSilentEnd settings script f)

abbrev pub IsReportOf : Settings → List ℕ → Form → Option ℕ → List ℕ → Type 0
IsReportOf settings script form line text =
    (answers : List Marked) × AreReported settings script line answers
    × IsReport settings form (state_after settings answers) (said_last settings answers) text

-- A report is written, or a prefix of it after a write fault. If there is none, nothing is written: the bench can't be
-- made, a byte of the script passes a bound, or the line doesn't exist, or has no answer.
abbrev pub Reports : Settings → List ℕ → Form → Option ℕ → Option (List ℕ) → Option (List ℕ)
    → Result (Unit {0}) ReportFault → Type 0
Reports settings script form line at_first now (Ok u) =
    (text : List ℕ) × IsReportOf settings script form line text × Appends at_first now text
Reports settings script form line at_first now (Err fault.Write) =
    (text : List ℕ) × IsReportOf settings script form line text × AppendsFront at_first now text
Reports settings script form line at_first now (Err (fault.New f)) = IsNewFault settings f × Appends at_first now []
Reports settings script form line at_first now (Err fault.TooLong) = Passes settings script × Appends at_first now []
Reports settings script form line at_first now (Err (fault.NoLine n)) =
    LacksLine script line n × Appends at_first now []
Reports settings script form line at_first now (Err fault.Aside) =
    IsSilent settings script line fault.Aside × Appends at_first now []
Reports settings script form line at_first now (Err fault.Dropped) =
    IsSilent settings script line fault.Dropped × Appends at_first now []
Reports settings script form line at_first now (Err (fault.NoTask task)) = ⊥
