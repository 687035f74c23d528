-- At which statements a reading differs.
use Rattle.std.specs.Prelude.{ℕ, Bool, true, false, Option, Some, None, List, [], ◌∷◌, ◌++◌}
use Rattle.explain_standing.specs.declared.trail.TrailEntry.{TrailEntry}
use Rattle.explain_who.specs.Readings.{is_taken, same}
use Rattle.explain_who.specs.declared.readings.Seen.{Seen}

-- A line at whose statement the reading differs, with what is read before and after it, and which line took the storage
-- before and after it.
pub record Difference : Type 0 where
  pub line : ℕ
  pub before : Seen
  pub after : Seen
  pub taken_before : Option ℕ
  pub taken_after : Option ℕ

abbrev pub difference : ℕ → Seen → Seen → Option ℕ → Option ℕ → Difference
difference line before after taken_before taken_after =
    record {
      line = line;
      before = before;
      after = after;
      taken_before = taken_before;
      taken_after = taken_after;
    }

abbrev pub unless : Bool → Difference → List Difference
unless true d = []
unless false d = d ∷ []

-- Whether storage is taken after a statement, and before it; the line of the statement; and the line that took it by
-- the statements before: the line that took it.
abbrev pub since : Bool → Bool → ℕ → Option ℕ → Option ℕ
since false before line older = None
since true true line older = older
since true false line older = Some line

-- Those of these statements, oldest first, that change what is read; `before` is read before all of them, when the
-- storage is taken by the line `older`.
abbrev pub differences_of : Option ℕ → Seen → List (TrailEntry Seen) → List Difference
differences_of older before [] = []
differences_of older before (e ∷ es) =
    let newer = since (is_taken e.seen) (is_taken before) e.line older in
    unless (same before e.seen) (difference e.line before e.seen older newer)
    ++ differences_of newer e.seen es
