-- One line of a script that lies in memory, taken with its line feed.
use Rattle.std.specs.Prelude.{◌≡◌, ◌-◌, ◌<◌, ◌≤◌, ℕ, List, ◌++◌, length, take, drop, slice_index}
use Rattle.std.specs.Prelude.{Option, Some, None, Result, Ok, Err}
use Rattle.vsm_model.specs.declared.limits.Settings.{Settings}
use Rattle.bench_core.specs.Stands.{bench_of}
use Rattle.macro_statements.specs.Requests.{Asked}
use Rattle.script_steps.specs.Answers.{told_text}
use Rattle.script_steps.specs.Output.{Marked}
use Rattle.script_steps.specs.Script.{NoFeed}
use Rattle.script_steps.specs.Taken.{Took, PassesBound, AreAsked, Brings, IsTold, Shows, answers_of}
use Rattle.script_steps.specs.declared.session.Session.{Session}
use Rattle.script_steps.specs.declared.session.TooLong.{TooLong}
use Rattle.script_steps.specs.declared.steps.Step.{Step}

-- The first line feed from a place on ends the line, and the next line begins after it.
pub record IsLineOf (script : List ℕ) (at next : ℕ) : Type 0 where
  pub some : at < next
  pub within : next ≤ length script
  pub plain : NoFeed (take (next - 1 - at) (drop at script))
  pub feed : slice_index script (next - 1) ≡ 10

-- The line from a place on, which adds these further answers; a rest without a line feed, of which nothing is taken; or
-- a byte that passes a bound, whatever follows the script.
abbrev pub TakesStep : Settings → List ℕ → ℕ → List Marked → Session → Result (Option Step) TooLong → Type 0
TakesStep settings script at answers s (Ok (Some step)) =
    (more : List Marked) × IsTold settings answers more (told_text settings (bench_of s.bench) s.shown.items step.told)
    × Took settings (take step.next script) (answers ++ more) s
TakesStep settings script at answers s (Ok None) = Took settings (take at script) answers s
TakesStep settings script at answers s (Err e) = PassesBound settings script answers

-- The further answers of the line are what is reported: its response, as well as the text of it.
abbrev pub BringsStep : Settings → List ℕ → List Marked → Session → Result (Option Step) TooLong → Type 0
BringsStep settings script answers s (Ok (Some step)) =
    (more : List Marked) × Brings settings answers more step.told
    × Took settings (take step.next script) (answers ++ more) s
BringsStep settings script answers s _ = Unit {0}

-- And if it's a reading's, the session shows its bytes.
abbrev pub ShowsStep : Settings → List ℕ → List Marked → Session → Result (Option Step) TooLong → Type 0
ShowsStep settings script answers s (Ok (Some step)) =
    (more : List Marked) × Brings settings answers more step.told × Shows settings answers more s.shown.items
    × Took settings (take step.next script) (answers ++ more) s
ShowsStep settings script answers s _ = Unit {0}

-- And this is what its statement asked for.
abbrev pub AsksStep : Settings → List ℕ → List Marked → Session → Result (Option Step) TooLong → Asked → Type 0
AsksStep settings script answers s (Ok (Some step)) asked =
    (more : List Marked) × Brings settings answers more step.told × Shows settings answers more s.shown.items
    × AreAsked asked (answers_of more) × Took settings (take step.next script) (answers ++ more) s
AsksStep settings script answers s _ asked = Unit {0}

-- The place of the line that was taken.
abbrev pub StepsOver : List ℕ → ℕ → Result (Option Step) TooLong → Type 0
StepsOver script at (Ok (Some step)) = (step.start ≡ at) × IsLineOf script at step.next
StepsOver script at (Ok None) = NoFeed (drop at script)
StepsOver script at (Err e) = at < length script
