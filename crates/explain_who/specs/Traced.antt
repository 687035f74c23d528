-- What is read along the statements of a script in effect, and at which of them it differs.
use Rattle.std.specs.Prelude.{◌≡◌, ℕ, List, [], ◌∷◌, ◌++◌, map, reverse, Option, None, Result, Ok, Err}
use Rattle.macro_statements.specs.Requests.{Act}
use Rattle.vsm_model.specs.declared.limits.Settings.{Settings}
use Rattle.vsm_model.specs.Names.{NamedState, first_named_state}
use Rattle.vsm_model.specs.Standing.{alone}
use Rattle.bench_core.specs.Machine.{statement_step}
use Rattle.script_steps.specs.Output.{Marked}
use Rattle.script_steps.specs.Taken.{Ended}
use Rattle.explain_standing.specs.Faults.{FollowsNot}
use Rattle.explain_standing.specs.Lined.{standing}
use Rattle.explain_standing.specs.Trails.{seen_along}
use Rattle.explain_standing.specs.declared.faults.FollowFault.{FollowFault}
use Rattle.explain_who.specs.Readings.{is_taken, reading, same}
use Rattle.explain_who.specs.ScriptLines.{LinesBegin}
use Rattle.explain_who.specs.Who.{Difference, since, unless}
use Rattle.explain_who.specs.declared.readings.Seen.{Seen}
use Rattle.explain_who.specs.declared.readings.Subject.{Subject}
use Rattle.explain_who.specs.declared.tracing.Traced.{Traced}

-- ---- by the definition

module _ (settings : Settings) where
  -- what is read after only these statements, the newest first
  abbrev pub read_after : (NamedState → Seen) → List (ℕ × Act) → Seen
  read_after read xs = read (alone first_named_state (statement_step settings) (map (λ x. x.1) xs))

  -- The line of the newest of these statements after which the storage is taken and before which it wasn't; none if it
  -- isn't taken after all of them. The newest is first.
  abbrev pub taken_since : (NamedState → Seen) → List (ℕ × Act) → Option ℕ
  taken_since read [] = None
  taken_since read (x ∷ older) =
      since (is_taken (read_after read (x ∷ older))) (is_taken (read_after read older)) x.0
      (taken_since read older)

  -- a statement with what is read after it and those before it, and after those before it
  abbrev pub difference_at : (NamedState → Seen) → List (ℕ × Act) → ℕ × Act → Difference
  difference_at read older x =
      record {
        line = x.0;
        before = read_after read older;
        after = read_after read (x ∷ older);
        taken_before = taken_since read older;
        taken_after = taken_since read (x ∷ older);
      }

  -- Of these statements, oldest first, those at which a reading differs between the statements up to it and those
  -- before it, run alone. Before all of them are others, newest first.
  abbrev pub differences_along : (NamedState → Seen) → List (ℕ × Act) → List (ℕ × Act) → List Difference
  differences_along read older [] = []
  differences_along read older (x ∷ xs) =
      unless (same (read_after read older) (read_after read (x ∷ older))) (difference_at read older x)
      ++ differences_along read (x ∷ older) xs

  -- those of the statements in effect after a script with these answers
  abbrev pub standing_differences : (NamedState → Seen) → List Marked → List Difference
  standing_differences read answers =
      differences_along read [] (reverse (standing settings answers))

-- The lines that are named: exactly those at whose statements the reading differs between the statements in effect up
-- to them and those before them, with both readings.
abbrev pub IsFound : Settings → List ℕ → Subject → List Difference → Type 0
IsFound settings script asked found =
    (answers : List Marked) × Ended settings script answers
    × (found ≡ standing_differences settings (reading settings asked) answers)

-- ---- as it's traced

-- what is asked for, as it is after only these statements, newest first
abbrev pub reading_alone : Settings → Subject → List Act → Seen
reading_alone settings asked xs = reading settings asked (alone first_named_state (statement_step settings) xs)

-- What is read first, what is read after each statement in effect, and where the script's lines begin.
pub record IsTraced (settings : Settings) (script : List ℕ) (asked : Subject) (t : Traced) : Type 0 where
  pub answers : List Marked
  pub ended : Ended settings script answers
  pub first : t.first ≡ reading settings asked first_named_state
  pub along :
      t.entries.items ≡ seen_along (reading_alone settings asked) [] (reverse (standing settings answers))
  pub starts : LinesBegin script script t.starts.items []

-- It is traced, or can't be followed.
abbrev pub IsTracedAs : Settings → List ℕ → Subject → Result Traced FollowFault → Type 0
IsTracedAs settings script asked (Ok t) = IsTraced settings script asked t
IsTracedAs settings script asked (Err fault) = FollowsNot settings script fault
