-- What is written of a script is what the definitions say.
use Rattle.std.proofs.Common.{◌≡◌, ℕ, List, Option, Result, Ok, Err, sym, subst, take}
use Rattle.macro_statements.specs.Requests.{Act}
use Rattle.vsm_model.specs.declared.limits.Settings.{Settings}
use Rattle.script_steps.specs.Output.{Marked}
use Rattle.script_steps.specs.Taken.{Ended}
use Rattle.explain_standing.specs.Faults.{FollowsNot}
use Rattle.explain_standing.specs.Lined.{standing}
use Rattle.explain_areas.specs.Ends.{IsEndOf}
use Rattle.explain_areas.specs.Told.{CanBeListed, TellsAfter, TellsAreas, TellsPart, WritesText, text_after}
use Rattle.explain_areas.specs.declared.asked.AreasAsked.{AreasAsked}
use Rattle.explain_areas.specs.declared.faults.AreasFault.{AreasFault}
use Rattle.explain_areas.specs.declared.faults.AreasFault.TheVariants as fault

module _ (settings : Settings) (script : List ℕ) (asked : AreasAsked) (old new : Option (List ℕ)) where
  -- What can be listed is written.
  pub after_told : (xs : List (ℕ × Act)) (r : Result (Unit {0}) AreasFault) → CanBeListed settings script asked xs →
      WritesText (text_after settings script asked xs) old new r → TellsAfter settings script asked xs old new r
  after_told xs (Ok u) can w = (can, w)
  after_told xs (Err fault.Write) can w = (can, w)
  after_told xs (Err (fault.Follow f)) can w = (can, w)
  after_told xs (Err (fault.Since n)) can w = absurd w
  after_told xs (Err (fault.NoTask task)) can w = absurd w
  after_told xs (Err (fault.Line f)) can w = absurd w

  -- So it is of a whole script,
  pub part_told : (answers : List Marked) (r : Result (Unit {0}) AreasFault) → Ended settings script answers →
      TellsAfter settings script asked (standing settings answers) old new r → TellsPart settings script asked old new r
  part_told answers (Ok u) ended t = (answers, ended, t)
  part_told answers (Err fault.Write) ended t = (answers, ended, t)
  part_told answers (Err (fault.Follow f)) ended t = (subst (FollowsNot settings script) (sym t.1.0) tt, t.1.1)
  part_told answers (Err (fault.Since n)) ended t = (answers, ended, t)
  part_told answers (Err (fault.NoTask task)) ended t = (answers, ended, t)
  part_told answers (Err (fault.Line f)) ended t = (answers, ended, t)

  -- and of its part up to the end of a statement.
  pub areas_told : (at : ℕ) (part : List ℕ) (r : Result (Unit {0}) AreasFault) → IsEndOf settings script asked.line at → part ≡ take at script →
      TellsPart settings part asked old new r → TellsAreas settings script asked old new r
  areas_told at part (Ok u) end is t = (at, end, subst (λ p. TellsPart settings p asked old new (Ok u)) is t)
  areas_told at part (Err fault.Write) end is t = (at, end, subst (λ p. TellsPart settings p asked old new (Err fault.Write)) is t)
  areas_told at part (Err (fault.Follow f)) end is t = (at, end, subst (λ p. TellsPart settings p asked old new (Err (fault.Follow f))) is t)
  areas_told at part (Err (fault.Since n)) end is t = (at, end, subst (λ p. TellsPart settings p asked old new (Err (fault.Since n))) is t)
  areas_told at part (Err (fault.NoTask task)) end is t = (at, end, subst (λ p. TellsPart settings p asked old new (Err (fault.NoTask task))) is t)
  areas_told at part (Err (fault.Line f)) end is t = absurd t.2.1
