-- What the last answer of a script was, and what its storage is after some answers.
use Rattle.std.specs.Prelude.{ℕ, Bool, true, false, List, [], ◌∷◌, Option, Some, None}
use Rattle.macro_reader.specs.Scripts.{Mode, awaiting, dropping, gathering}
use Rattle.macro_statements.specs.Requests.{Act}
use Rattle.vsm_model.specs.declared.limits.Settings.{Settings}
use Rattle.vsm_model.specs.declared.replies.Reply.{Reply}
use Rattle.vsm_model.specs.Standing.{Standing, nothing_stands}
use Rattle.vsm_model.specs.State.{State}
use Rattle.script_steps.specs.Output.{Marked, alone_now, bytes_shown, responded, stands_after, stands_all}
use Rattle.script_steps.specs.declared.responses.Response.{Response}
use Rattle.explain_report.specs.SaidTexts.{said_of_answer}
use Rattle.explain_report.specs.declared.runs.LastAnswer.{LastAnswer}

-- the storage after these answers: that of the statements in effect, run alone
abbrev pub state_after : Settings → List Marked → State
state_after settings answers = (alone_now settings (stands_all settings nothing_stands answers)).storage

-- What a report says that follows this answer, its line and its text, when these statements were in effect before it;
abbrev pub said_of : Settings → Standing Act Reply → Marked → Option (ℕ × List ℕ)
said_of settings l m =
    said_of_answer (bytes_shown settings l m.answer.what)
    (Some (m.answer.line, responded settings l m.unmet m.answer.what))

-- one that follows these answers, of which the last counts; `before` if there is none;
abbrev pub said_from : Settings → Standing Act Reply → Option (ℕ × List ℕ) → List Marked → Option (ℕ × List ℕ)
said_from settings l before [] = before
said_from settings l before (m ∷ ms) = said_from settings (stands_after settings l m) (said_of settings l m) ms

-- and one that follows the answers of a script.
abbrev pub said_last : Settings → List Marked → Option (ℕ × List ℕ)
said_last settings answers = said_from settings nothing_stands None answers

-- the same after the last answer so far
abbrev pub said_by : LastAnswer → Option (ℕ × List ℕ)
said_by last = said_of_answer last.shown.items last.told

-- and with a further answer, if there is one, that shows these bytes
abbrev pub said_with : Option (ℕ × Response) → List ℕ → Option (ℕ × List ℕ) → Option (ℕ × List ℕ)
said_with None bytes before = before
said_with (Some told) bytes before = said_of_answer bytes (Some told)

-- whether no statement is open
abbrev pub is_between : Mode → Bool
is_between awaiting = true
is_between dropping = true
is_between (gathering n card j count) = false
