-- A script that was followed to its end: its statements in effect, and the PEEKs whose states aren't undone.
use Rattle.std.specs.Prelude.{◌≡◌, ℕ, ◌<◌, ◌≤◌, nat_le, if◌then◌else◌, List, [], ◌∷◌, ◌++◌, length, map, reverse, take}
use Rattle.std.specs.Prelude.{Option, Some, None, Result, Ok, Err}
use Rattle.macro_statements.specs.Requests.{Act, Asked, act, peek, end_task, act_in, written_in}
use Rattle.vsm_model.specs.declared.limits.Settings.{Settings}
use Rattle.vsm_model.specs.Standing.{nothing_stands}
use Rattle.script_steps.specs.Output.{Marked}
use Rattle.script_steps.specs.Taken.{Ended, Took}
use Rattle.script_steps.specs.declared.responses.Response.{Response}
use Rattle.script_steps.specs.declared.responses.Response.TheVariants as response
use Rattle.script_steps.specs.declared.session.Session.{Session}
use Rattle.macro_operands.specs.declared.requests.Statement.{Statement}
use Rattle.explain_standing.specs.Lined.{standing}
use Rattle.explain_standing.specs.Faults.{FollowsNot}
use Rattle.explain_standing.specs.Lined.{lined_all}
use Rattle.explain_standing.specs.Notes.{IsNextLine}
use Rattle.explain_standing.specs.Trails as marks
use Rattle.explain_standing.specs.Trails.{Marks, marks_of}
use Rattle.explain_standing.specs.declared.faults.FollowFault.{FollowFault}
use Rattle.explain_standing.specs.declared.trail.Trail.{Trail}
use Rattle.explain_standing.specs.declared.trail.TrailEntry.{TrailEntry}
use Rattle.explain_standing.specs.Readings.{Reading, readings_all}
use Rattle.explain_standing.specs.declared.standing.Followed.{Followed}
use Rattle.explain_standing.specs.declared.standing.Reading.{Reading as ReadingKept}

-- entries as statements with their lines, and PEEKs as the definitions see them
abbrev pub acts_in : List (TrailEntry Statement) → List (ℕ × Act)
acts_in = map (λ e. (e.line, act_in e.seen))

abbrev pub reading_in : ReadingKept → Reading
reading_in r = record { depth = r.depth; line = r.line; address = written_in r.address; count = r.count }

-- The statements in effect, oldest first, and the PEEKs, oldest first.
pub record IsFollowedBy (settings : Settings) (script : List ℕ) (f : Followed) : Type 0 where
  pub answers : List Marked
  pub ended : Ended settings script answers
  pub acts : acts_in (take (marks_of f.trail).standing (marks_of f.trail).entries) ≡ reverse (standing settings answers)
  pub readings : map reading_in f.readings.items ≡ reverse (readings_all settings nothing_stands [] answers)

-- It is followed, or can't be.
abbrev pub IsFollowed : Settings → List ℕ → Result Followed FollowFault → Type 0
IsFollowed settings script (Ok f) = IsFollowedBy settings script f
IsFollowed settings script (Err fault) = FollowsNot settings script fault

-- the marks of statements, as the definitions see these
abbrev pub marks_in : Trail Statement → Marks Act
marks_in t =
    record {
      entries = map (λ e. record { line = e.line; seen = act_in e.seen }) t.entries.items;
      standing = t.standing;
    }

-- what is read after statements is the newest of them
abbrev pub newest : List Act → Act
newest [] = end_task
newest (x ∷ older) = x

-- the statement that is asked for; ENDTASK for any other request
abbrev pub act_asked : Asked → Act
act_asked (act x) = x
act_asked _ = end_task

-- the PEEKs that are kept, newest first
abbrev pub readings_in : List ReadingKept → List Reading
readings_in rs = map reading_in (reverse rs)

-- More statements than these are in effect in the first one's state.
abbrev pub Deeper : ℕ → List Reading → Type 0
Deeper n [] = ⊥
Deeper n (r ∷ rs) = n < r.depth

-- without the first ones in whose states more statements than these are in effect
abbrev pub fallen : ℕ → List Reading → List Reading
fallen n [] = []
fallen n (r ∷ rs) = if nat_le r.depth n then r ∷ rs else fallen n rs

-- In the first one's state at most this many statements are in effect, and in each other's at most as many as in that
-- before it.
abbrev pub AreWithin : ℕ → List Reading → Type 0
AreWithin n [] = Unit {0}
AreWithin n (r ∷ rs) = (r.depth ≤ n) × AreWithin r.depth rs

-- with the PEEK that is asked for on a line, while this many statements are in effect
abbrev pub with_reading : Asked → ℕ → ℕ → List Reading → List Reading
with_reading (peek address count) depth line rs =
    record { depth = depth; line = line; address = address; count = count } ∷ rs
with_reading _ depth line rs = rs

-- the PEEKs after a response, if that many statements are in effect before and after it
abbrev pub readings_noted : Option (ℕ × Response) → Asked → ℕ → ℕ → List Reading → List Reading
readings_noted None asked before after rs = rs
readings_noted (Some (line, response.Shown)) asked before after rs = with_reading asked before line rs
readings_noted (Some (line, response.Kept kept)) asked before after rs = fallen after rs
readings_noted (Some (line, response.Replied reply)) asked before after rs = rs
readings_noted (Some (line, response.Refused why)) asked before after rs = rs
readings_noted (Some (line, response.TooFar n)) asked before after rs = rs
readings_noted (Some (line, response.TooFarAhead n)) asked before after rs = rs
readings_noted (Some (line, response.Map)) asked before after rs = rs
readings_noted (Some (line, response.Fault kind)) asked before after rs = rs

-- A response changes neither the statements in effect nor the PEEKs.
abbrev pub IsIdle : Option (ℕ × Response) → Type 0
IsIdle None = Unit {0}
IsIdle (Some (line, response.Shown)) = ⊥
IsIdle (Some (line, response.Kept kept)) = ⊥
IsIdle (Some (line, response.Replied reply)) = ⊥
IsIdle (Some (line, response.Refused why)) = Unit {0}
IsIdle (Some (line, response.TooFar n)) = Unit {0}
IsIdle (Some (line, response.TooFarAhead n)) = Unit {0}
IsIdle (Some (line, response.Map)) = Unit {0}
IsIdle (Some (line, response.Fault kind)) = Unit {0}

-- The trail has the statements in effect after these answers, and those that are undone, each with its line; and the
-- PEEKs are kept whose states aren't undone.
pub record Follows (settings : Settings) (answers : List Marked) (f : Followed) : Type 0 where
  pub acts : marks.Follows newest (lined_all settings nothing_stands answers) (marks_in f.trail)
  pub readings : readings_in f.readings.items ≡ readings_all settings nothing_stands [] answers
  pub within : AreWithin (length (lined_all settings nothing_stands answers).stood)
      (readings_all settings nothing_stands [] answers)

-- The answers of a line are followed; or nothing was taken; or it can't be followed.
abbrev pub FollowsLine : Settings → List ℕ → ℕ → List Marked → Session → Followed → Result (Option ℕ) FollowFault
    → Type 0
FollowsLine settings script at answers s f (Ok (Some next)) =
    (more : List Marked) × Took settings (take next script) (answers ++ more) s × Follows settings (answers ++ more) f
FollowsLine settings script at answers s f (Ok None) =
    Took settings (take at script) answers s × Follows settings answers f
FollowsLine settings script at answers s f (Err fault) = FollowsNot settings script fault

-- A line from a place on is followed, if what precedes it is: where the next begins, and its answers.
pub record IsLineFollowed (script : List ℕ) (at : ℕ) (old new : Session) (f g : Followed)
    (r : Result (Option ℕ) FollowFault) : Type 0 where
  pub place : IsNextLine script at r
  pub follows : (settings : Settings) (answers : List Marked) → Took settings (take at script) answers old
      → Follows settings answers f → FollowsLine settings script at answers new g r

-- The script is followed to its end, or can't be followed.
abbrev pub FollowsEnd : Settings → List ℕ → Followed → Result (Unit {0}) FollowFault → Type 0
FollowsEnd settings script f (Ok u) = (all : List Marked) × Ended settings script all × Follows settings all f
FollowsEnd settings script f (Err fault) = FollowsNot settings script fault

-- What follows the last line feed is followed to the script's end, if what precedes it is.
abbrev pub IsEndFollowed : List ℕ → Session → Followed → Followed → Result (Unit {0}) FollowFault → Type 0
IsEndFollowed rest s f g r =
    (settings : Settings) (given : List ℕ) (answers : List Marked) → Took settings given answers s
    → Follows settings answers f → FollowsEnd settings (given ++ rest) g r
