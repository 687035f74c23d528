-- The statements in effect by the definition, each with the line on which it begins.
use Rattle.std.specs.Prelude.{◌≡◌, ℕ, List, [], ◌∷◌, ◌++◌, Bool, map, Option, Some, None, Result, Ok, Err}
use Rattle.macro_operands.specs.declared.faults.FaultKind.{FaultKind}
use Rattle.macro_statements.specs.Requests.{Act, Asked}
use Rattle.vsm_model.specs.declared.limits.Settings.{Settings}
use Rattle.vsm_model.specs.declared.replies.Reply.{Reply}
use Rattle.vsm_model.specs.Standing.{Stood, Standing, Call, Apply, Back, Forward, Look, nothing_stands, stand}
use Rattle.script_steps.specs.Output.{Marked, answer_to, call_in, stands_all}

-- a call with the line of its statement
abbrev pub with_line : ℕ → Call Act → Call (ℕ × Act)
with_line line (Apply x) = Apply (line, x)
with_line line (Back n) = Back n
with_line line (Forward n) = Forward n
with_line line Look = Look

-- the statements in effect, without the lines
abbrev pub unlined : List (Stood (ℕ × Act) Reply) → List (Stood Act Reply)
unlined = map (λ x. record { statement = x.statement.1; reply = x.reply })

abbrev pub plain : Standing (ℕ × Act) Reply → Standing Act Reply
plain l = record { stood = unlined l.stood; kept = l.kept; undone = unlined l.undone }

module _ (settings : Settings) where
  -- The statements in effect after the call of an answer, with the line of that answer,
  abbrev pub lined_call : Standing (ℕ × Act) Reply → ℕ → Bool → Option (Call Act) → Standing (ℕ × Act) Reply
  lined_call l line unmet None = l
  lined_call l line unmet (Some call) =
      stand settings.history l (with_line line call) (answer_to settings (plain l) unmet call)

  abbrev pub lined_with : Standing (ℕ × Act) Reply → ℕ → Bool → Result Asked FaultKind → Standing (ℕ × Act) Reply
  lined_with l line unmet (Err kind) = l
  lined_with l line unmet (Ok asked) = lined_call l line unmet (call_in asked)

  abbrev pub lined_after : Standing (ℕ × Act) Reply → Marked → Standing (ℕ × Act) Reply
  lined_after l m = lined_with l m.answer.line m.unmet m.answer.what

  -- and after a list of answers.
  abbrev pub lined_all : Standing (ℕ × Act) Reply → List Marked → Standing (ℕ × Act) Reply
  lined_all l [] = l
  lined_all l (m ∷ ms) = lined_all (lined_after l m) ms

  -- They are the statements in effect by the definition.
  abbrev pub LinesAreOfStatements : Type 0
  LinesAreOfStatements =
      (answers : List Marked) → plain (lined_all nothing_stands answers) ≡ stands_all settings nothing_stands answers

  -- those after these answers, each with its line, the newest first
  abbrev pub standing : List Marked → List (ℕ × Act)
  standing answers = map (λ x. x.statement) (lined_all nothing_stands answers).stood
