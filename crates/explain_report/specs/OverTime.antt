-- A report over time: a heading, and a row for each answer of a script.
use Rattle.std.specs.Prelude.{◌≡◌, ◌<◌, ◌≤◌, ◌⊎◌, ℕ, List, [], ◌∷◌, ◌++◌, length, take, drop}
use Rattle.std.specs.Prelude.{Option, Some, None, is_some, Result, Ok, Err}
use Rattle.std.specs.Io.KnownBytes.{Appends}
use Rattle.macro_statements.specs.Requests.{Act}
use Rattle.vsm_model.specs.declared.limits.Settings.{Settings}
use Rattle.vsm_model.specs.declared.replies.Reply.{Reply}
use Rattle.vsm_model.specs.Standing.{Standing, nothing_stands}
use Rattle.script_steps.specs.Output.{Marked, alone_now, stands_after}
use Rattle.script_steps.specs.Run.{IsNewFault}
use Rattle.script_steps.specs.Script.{NoFeed}
use Rattle.script_steps.specs.Taken.{Took, Ended, PassesBound}
use Rattle.script_steps.specs.declared.session.Session.{Session}
use Rattle.script_steps.specs.declared.session.TooLong.{TooLong}
use Rattle.text_output.specs.Writing.{AppendsFront, Holds}
use Rattle.text_output.specs.declared.writing.Gathered.{Gathered}
use Rattle.explain_report.specs.Figures.{IsFiguresOf, seen_in}
use Rattle.explain_report.specs.Said.{state_after}
use Rattle.explain_report.specs.Csv.{heading_text, row_text}
use Rattle.explain_report.specs.Tasks.{Searched}
use Rattle.explain_report.specs.declared.faults.ReportFault.{ReportFault}
use Rattle.explain_report.specs.declared.faults.ReportFault.TheVariants as fault
use Rattle.explain_report.specs.declared.times.Figures.{Figures}

-- The text has a row for each of these answers, in their order, when these statements were in effect before the first:
-- the line of the answer, and the figures of the statements in effect after it, run alone.
abbrev pub AreRows : Settings → Option (ℕ × ℕ) → Standing Act Reply → List Marked → List ℕ → Type 0
AreRows settings seen l [] text = text ≡ []
AreRows settings seen l (m ∷ ms) text =
    (f : Figures) × (more : List ℕ) × (seen_in f ≡ seen)
    × IsFiguresOf settings (alone_now settings (stands_after settings l m)).storage f
    × (text ≡ row_text m.answer.line f ++ more) × AreRows settings seen (stands_after settings l m) ms more

-- the heading, and the rows of these answers of a script
abbrev pub IsOverTime : Settings → Option (ℕ × ℕ) → List Marked → List ℕ → Type 0
IsOverTime settings seen answers text =
    (rows : List ℕ) × AreRows settings seen nothing_stands answers rows
    × (text ≡ heading_text (is_some seen) ++ rows)

-- The heading and the rows of these answers are put, and these are the figures after the last.
pub record ArePut (settings : Settings) (seen : Option (ℕ × ℕ)) (at_first now : Option (List ℕ))
    (g : Gathered) (answers : List Marked) (f : Figures) : Type 0 where
  pub text : List ℕ
  pub over : IsOverTime settings seen answers text
  pub held : Holds at_first now g text
  pub figures : IsFiguresOf settings (state_after settings answers) f
  pub same : seen_in f ≡ seen

-- The session took these bytes, and the rows of its answers are put.
pub record Rows (settings : Settings) (seen : Option (ℕ × ℕ)) (at_first now : Option (List ℕ))
    (g : Gathered) (given : List ℕ) (s : Session) (f : Figures) : Type 0 where
  pub answers : List Marked
  pub took : Took settings given answers s
  pub put : ArePut settings seen at_first now g answers f

-- A byte of the script passes a bound; the rows of the answers before it are put.
abbrev pub Stops : Settings → Option (ℕ × ℕ) → Option (List ℕ) → Option (List ℕ) → Gathered → List ℕ → Type 0
Stops settings seen at_first now g script =
    (answers : List Marked) × (text : List ℕ) × PassesBound settings script answers
    × IsOverTime settings seen answers text × Holds at_first now g text

-- The script has ended, and the rows of all its answers are put.
abbrev pub Ends : Settings → Option (ℕ × ℕ) → Option (List ℕ) → Option (List ℕ) → Gathered → List ℕ → Type 0
Ends settings seen at_first now g script =
    (answers : List Marked) × (text : List ℕ) × Ended settings script answers
    × IsOverTime settings seen answers text × Holds at_first now g text

-- The row of the line from a place on is put, if it has a line feed.
abbrev pub RowsStep : Settings → Option (ℕ × ℕ) → Option (List ℕ) → Option (List ℕ) → Gathered → List ℕ → ℕ
    → Session → Figures → Result (Option ℕ) TooLong → Type 0
RowsStep settings seen at_first now g script at s f (Ok (Some next)) =
    Rows settings seen at_first now g (take next script) s f
RowsStep settings seen at_first now g script at s f (Ok None) =
    Rows settings seen at_first now g (take at script) s f
RowsStep settings seen at_first now g script at s f (Err e) = Stops settings seen at_first now g script

abbrev pub IsNext : List ℕ → ℕ → Result (Option ℕ) TooLong → Type 0
IsNext script at (Ok (Some next)) = (at < next) × (next ≤ length script)
IsNext script at (Ok None) = NoFeed (drop at script)
IsNext script at (Err e) = Unit {0}

-- The rows of all lines that have a line feed are put.
abbrev pub RowsLines : Settings → Option (ℕ × ℕ) → Option (List ℕ) → Option (List ℕ) → Gathered → List ℕ
    → Session → Figures → Result ℕ TooLong → Type 0
RowsLines settings seen at_first now g script s f (Ok at) =
    Rows settings seen at_first now g (take at script) s f
RowsLines settings seen at_first now g script s f (Err e) = Stops settings seen at_first now g script

abbrev pub IsRest : List ℕ → Result ℕ TooLong → Type 0
IsRest script (Ok at) = (at ≤ length script) × NoFeed (drop at script)
IsRest script (Err e) = Unit {0}

-- The rows of a script are put, or of its lines before one that passes a bound.
abbrev pub RowsAll : Settings → Option (ℕ × ℕ) → Option (List ℕ) → Option (List ℕ) → Gathered → List ℕ
    → Result (Unit {0}) ReportFault → Type 0
RowsAll settings seen at_first now g script (Ok u) = Ends settings seen at_first now g script
RowsAll settings seen at_first now g script (Err fault.TooLong) = Stops settings seen at_first now g script
RowsAll settings seen at_first now g script (Err _) = ⊥

-- The text is that of the whole script, or of its lines before one that passes a bound.
abbrev pub IsOverTimeOf : Settings → List ℕ → Option (ℕ × ℕ) → List ℕ → Type 0
IsOverTimeOf settings script seen text =
    (answers : List Marked) × Ended settings script answers × IsOverTime settings seen answers text

abbrev pub IsOverTimeBefore : Settings → List ℕ → Option (ℕ × ℕ) → List ℕ → Type 0
IsOverTimeBefore settings script seen text =
    (answers : List Marked) × PassesBound settings script answers × IsOverTime settings seen answers text

-- The heading and a row for each answer are written. If a byte of the script passes a bound, those of the lines before
-- it are; after a write fault a prefix of one of these texts; and nothing if the bench can't be made.
abbrev pub WritesRows : Settings → List ℕ → Option (ℕ × ℕ) → Option (List ℕ) → Option (List ℕ)
    → Result (Unit {0}) ReportFault → Type 0
WritesRows settings script seen at_first now (Ok u) =
    (text : List ℕ) × IsOverTimeOf settings script seen text × Appends at_first now text
WritesRows settings script seen at_first now (Err fault.TooLong) =
    (text : List ℕ) × IsOverTimeBefore settings script seen text × Appends at_first now text
WritesRows settings script seen at_first now (Err fault.Write) =
    (text : List ℕ) × (IsOverTimeOf settings script seen text ⊎ IsOverTimeBefore settings script seen text)
    × AppendsFront at_first now text
WritesRows settings script seen at_first now (Err (fault.New f)) = IsNewFault settings f × Appends at_first now []
WritesRows settings script seen at_first now (Err _) = ⊥

-- The task whose subpool is asked for exists sometime, if one is; or it's said why it wasn't found.
abbrev pub SearchedFor : Settings → List ℕ → Option (ℕ × ℕ) → Result (Unit {0}) ReportFault → Type 0
SearchedFor settings script None (Ok u) = Unit {0}
SearchedFor settings script None (Err f) = ⊥
SearchedFor settings script (Some seen) r = Searched settings script seen.0 r

-- Rows are written if the task exists sometime; nothing is if it never exists, or not before a byte that passes a
-- bound, or if the bench can't be made.
abbrev pub ReportsOverTime : Settings → List ℕ → Option (ℕ × ℕ) → Option (List ℕ) → Option (List ℕ)
    → Result (Unit {0}) ReportFault → Type 0
ReportsOverTime settings script seen at_first now r =
    (SearchedFor settings script seen (Ok tt) × WritesRows settings script seen at_first now r)
    ⊎ ((f : ReportFault) × (r ≡ Err f) × SearchedFor settings script seen (Err f) × Appends at_first now [])
