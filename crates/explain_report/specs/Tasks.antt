-- Whether a script makes a task.
use Rattle.std.specs.Prelude.{◌≡◌, ◌⊎◌, ◌≤◌, ℕ, true, false, List, [], ◌∷◌, length, take, drop}
use Rattle.std.specs.Prelude.{Option, Some, None, Result, Ok, Err}
use Rattle.macro_statements.specs.Requests.{Act}
use Rattle.vsm_model.specs.declared.limits.Settings.{Settings}
use Rattle.vsm_model.specs.declared.replies.Reply.{Reply}
use Rattle.vsm_model.specs.Standing.{Standing, nothing_stands}
use Rattle.vsm_model.specs.State.{is_task}
use Rattle.script_steps.specs.Output.{Marked, alone_now, stands_after}
use Rattle.script_steps.specs.Run.{IsNewFault}
use Rattle.script_steps.specs.Script.{NoFeed}
use Rattle.script_steps.specs.Taken.{Took, Ended, Unended, PassesBound}
use Rattle.script_steps.specs.declared.session.Session.{Session}
use Rattle.script_steps.specs.declared.session.TooLong.{TooLong}
use Rattle.explain_report.specs.Said.{state_after}
use Rattle.explain_report.specs.declared.faults.ReportFault.{ReportFault}
use Rattle.explain_report.specs.declared.faults.ReportFault.TheVariants as fault

-- The task exists neither when these statements are in effect nor after any of these answers.
abbrev pub NeverExists : Settings → ℕ → Standing Act Reply → List Marked → Type 0
NeverExists settings task l [] = is_task (alone_now settings l).storage task ≡ false
NeverExists settings task l (m ∷ ms) =
    (is_task (alone_now settings l).storage task ≡ false) × NeverExists settings task (stands_after settings l m) ms

-- The answers are those of the script's first lines, or of the whole script.
abbrev pub AreFirstAnswers : Settings → List ℕ → List Marked → Type 0
AreFirstAnswers settings script answers =
    ((at : ℕ) × Unended settings (take at script) answers) ⊎ Ended settings script answers

-- The task exists before a statement of the script, or after one.
abbrev pub MakesTask : Settings → List ℕ → ℕ → Type 0
MakesTask settings script task =
    (answers : List Marked) × AreFirstAnswers settings script answers
    × (is_task (state_after settings answers) task ≡ true)

-- It exists after none.
abbrev pub MakesNoTask : Settings → List ℕ → ℕ → Type 0
MakesNoTask settings script task =
    (answers : List Marked) × Ended settings script answers × NeverExists settings task nothing_stands answers

-- A byte of the script passes a bound; the task exists after no answer before it.
abbrev pub StopsWithout : Settings → List ℕ → ℕ → Type 0
StopsWithout settings script task =
    (answers : List Marked) × PassesBound settings script answers
    × NeverExists settings task nothing_stands answers

-- The task was found, or it's said why not.
abbrev pub Searched : Settings → List ℕ → ℕ → Result (Unit {0}) ReportFault → Type 0
Searched settings script task (Ok u) = MakesTask settings script task
Searched settings script task (Err (fault.NoTask t)) = (t ≡ task) × MakesNoTask settings script task
Searched settings script task (Err fault.TooLong) = StopsWithout settings script task
Searched settings script task (Err (fault.New f)) = IsNewFault settings f
Searched settings script task (Err _) = ⊥

-- The session took these bytes, after no answer of which the task exists.
abbrev pub LacksTask : Settings → ℕ → List ℕ → Session → Type 0
LacksTask settings task given s =
    (answers : List Marked) × Took settings given answers s × NeverExists settings task nothing_stands answers

-- All lines that have a line feed were taken, or those up to one after which the task exists.
abbrev pub SearchedLines : Settings → List ℕ → ℕ → Session → Result (Option ℕ) TooLong → Type 0
SearchedLines settings script task s (Ok (Some at)) = LacksTask settings task (take at script) s
SearchedLines settings script task s (Ok None) = MakesTask settings script task
SearchedLines settings script task s (Err e) = StopsWithout settings script task

abbrev pub IsRestAfter : List ℕ → Result (Option ℕ) TooLong → Type 0
IsRestAfter script (Ok (Some at)) = (at ≤ length script) × NoFeed (drop at script)
IsRestAfter script (Ok None) = Unit {0}
IsRestAfter script (Err e) = Unit {0}
