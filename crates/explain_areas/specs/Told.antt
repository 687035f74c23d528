-- What is written of a script: what is taken, by lines; and what each fault means.
use Rattle.std.specs.Prelude.{◌≡◌, ◌<◌, ◌≤◌, ℕ, true, false, List, [], take, Option, Some, None, Result, Ok, Err}
use Rattle.std.specs.Io.KnownBytes.{Appends}
use Rattle.macro_statements.specs.Requests.{Act}
use Rattle.text_output.specs.Writing.{AppendsFront}
use Rattle.vsm_model.specs.State.{State, is_task}
use Rattle.vsm_model.specs.declared.limits.Settings.{Settings}
use Rattle.script_steps.specs.Output.{Marked}
use Rattle.script_steps.specs.Taken.{Ended}
use Rattle.explain_report.specs.Lines.{line_count}
use Rattle.explain_standing.specs.Faults.{FollowsNot}
use Rattle.explain_standing.specs.Lined.{standing}
use Rattle.explain_standing.specs.Since.{machine_after}
use Rattle.explain_standing.specs.declared.faults.FollowFault.TheVariants as unfollowed
use Rattle.explain_areas.specs.Ends.{IsEndOf, LacksEndOf}
use Rattle.explain_areas.specs.RowTexts.{listed_text}
use Rattle.explain_areas.specs.Rows.{pages_listed, rows_listed}
use Rattle.explain_areas.specs.declared.asked.AreasAsked.{AreasAsked}
use Rattle.explain_areas.specs.declared.asked.Listed.{Listed}
use Rattle.explain_areas.specs.declared.asked.Listed.TheVariants as listed
use Rattle.explain_areas.specs.declared.faults.AreasFault.{AreasFault}
use Rattle.explain_areas.specs.declared.faults.AreasFault.TheVariants as fault

-- The script has the line after which is asked, if one is; or it has only n lines.
abbrev pub HasLines : List ℕ → Option ℕ → Type 0
HasLines script None = Unit {0}
HasLines script (Some since) = since ≤ line_count script

abbrev pub LacksLines : List ℕ → Option ℕ → ℕ → Type 0
LacksLines script None n = ⊥
LacksLines script (Some since) n = (n ≡ line_count script) × (n < since)

-- The task exists whose subpool is asked for, if one is; or it doesn't.
abbrev pub HasTask : State → Listed → Type 0
HasTask s (listed.Areas None keeps) = Unit {0}
HasTask s (listed.Areas (Some seen) keeps) = is_task s seen.0 ≡ true
HasTask s (listed.Cells pool) = Unit {0}

abbrev pub LacksTask : State → Listed → ℕ → Type 0
LacksTask s (listed.Areas None keeps) task = ⊥
LacksTask s (listed.Areas (Some seen) keeps) task = (task ≡ seen.0) × (is_task s task ≡ false)
LacksTask s (listed.Cells pool) task = ⊥

-- The text is written, or after a write fault a prefix of it; or nothing, if memory runs out.
abbrev pub WritesText : List ℕ → Option (List ℕ) → Option (List ℕ) → Result (Unit {0}) AreasFault → Type 0
WritesText text old new (Ok u) = Appends old new text
WritesText text old new (Err fault.Write) = AppendsFront old new text
WritesText text old new (Err (fault.Follow f)) = (f ≡ unfollowed.Memory) × Appends old new []
WritesText text old new (Err (fault.Since n)) = ⊥
WritesText text old new (Err (fault.NoTask task)) = ⊥
WritesText text old new (Err (fault.Line f)) = ⊥

module _ (settings : Settings) where
  -- What is listed after these statements of a script, the newest first, and whether it can be.
  abbrev pub text_after : List ℕ → AreasAsked → List (ℕ × Act) → List ℕ
  text_after script asked xs =
      listed_text asked.form asked.listed script (pages_listed settings xs asked.listed)
      (rows_listed settings xs asked.since asked.listed)

  abbrev pub CanBeListed : List ℕ → AreasAsked → List (ℕ × Act) → Type 0
  CanBeListed script asked xs =
      HasLines script asked.since × HasTask (machine_after settings xs).storage asked.listed

  -- It's written; or nothing is, if it can't be listed.
  abbrev pub TellsAfter : List ℕ → AreasAsked → List (ℕ × Act) → Option (List ℕ) → Option (List ℕ)
      → Result (Unit {0}) AreasFault → Type 0
  TellsAfter script asked xs old new (Err (fault.Since n)) = LacksLines script asked.since n × Appends old new []
  TellsAfter script asked xs old new (Err (fault.NoTask task)) =
      LacksTask (machine_after settings xs).storage asked.listed task × Appends old new []
  TellsAfter script asked xs old new r =
      CanBeListed script asked xs × WritesText (text_after script asked xs) old new r

  -- The same after the statements of a whole script that are in effect at its end.
  abbrev pub TellsPart : List ℕ → AreasAsked → Option (List ℕ) → Option (List ℕ)
      → Result (Unit {0}) AreasFault → Type 0
  TellsPart script asked old new (Err (fault.Follow f)) = FollowsNot settings script f × Appends old new []
  TellsPart script asked old new r =
      (answers : List Marked) × Ended settings script answers
      × TellsAfter script asked (standing settings answers) old new r

  -- The same of a script's part up to the end of the statement of a line, if one is asked for.
  abbrev pub TellsAreas : List ℕ → AreasAsked → Option (List ℕ) → Option (List ℕ)
      → Result (Unit {0}) AreasFault → Type 0
  TellsAreas script asked old new (Err (fault.Line f)) =
      LacksEndOf settings script asked.line f × Appends old new []
  TellsAreas script asked old new r =
      (at : ℕ) × IsEndOf settings script asked.line at × TellsPart (take at script) asked old new r
