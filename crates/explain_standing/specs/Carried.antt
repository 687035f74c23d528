-- A bench on which only the statements in effect were carried out, with what is known of what they took.
use Rattle.std.specs.Prelude.{◌≡◌, ◌==◌, ℕ, ◌/◌, ◌<◌, ◌^◌, Bool, true, false, if◌then◌else◌, Option, Some}
use Rattle.std.specs.Prelude.{List, [], ◌∷◌, map, reverse, Result, Ok, Err}
use Rattle.bench_core.specs.Stands.{bench_of, settings_in}
use Rattle.bench_core.specs.declared.bench.Bench.{Bench}
use Rattle.macro_operands.specs.declared.requests.Statement.{Statement}
use Rattle.macro_statements.specs.Requests.{Act, act_in, get}
use Rattle.vsm_model.specs.declared.limits.Settings.{Settings}
use Rattle.vsm_model.specs.declared.replies.Reply.{Reply}
use Rattle.vsm_model.specs.declared.replies.Reply.TheVariants.{Obtained, Returned, Cell, Attached, Turn, Stored}
use Rattle.vsm_model.specs.Map.{total_bytes}
use Rattle.vsm_model.specs.State.{State, is_task}
use Rattle.explain_standing.specs.declared.trail.TrailEntry.{TrailEntry}
use Rattle.explain_standing.specs.NumberMaps.{number_in}
use Rattle.script_steps.specs.Output.{Marked}
use Rattle.script_steps.specs.Taken.{Ended}
use Rattle.explain_standing.specs.Faults.{FollowsNot}
use Rattle.explain_standing.specs.Lined.{standing}
use Rattle.explain_standing.specs.declared.faults.FollowFault.{FollowFault}
use Rattle.explain_standing.specs.Since.{asked_by, asker, asker_ended, began_since, got_since, taken_since}
use Rattle.explain_standing.specs.Since.{is_cell_in_use, machine_after, reply_to}
use Rattle.explain_standing.specs.declared.carried.Carried.{Carried}

-- the bytes of a bench that are taken
abbrev pub taken_in : Bench → ℕ
taken_in b = total_bytes (settings_in b) (bench_of b).present.storage true

-- the storage
abbrev pub state_in : Carried → State
state_in c = (bench_of c.bench).present.storage

-- a statement with its line
abbrev pub line_act : TrailEntry Statement → ℕ × Act
line_act e = (e.line, act_in e.seen)

-- The bench is that after these statements, the newest first; and it's known which line took each taken doubleword and
-- each cell in use, which task was current before each statement, and which line began each task.
pub record IsCarried (settings : Settings) (xs : List (ℕ × Act)) (c : Carried) : Type 0 where
  pub present : (bench_of c.bench).present ≡ machine_after settings xs
  pub under : settings_in c.bench ≡ settings
  pub lines :
      (d : ℕ) → (machine_after settings xs).storage.taken d ≡ true → number_in c.lines d ≡ taken_since settings xs d
  pub cells :
      (cell : ℕ) → is_cell_in_use (machine_after settings xs).storage cell ≡ true →
      number_in c.cells (cell / 4) ≡ got_since settings xs cell
  pub askers : (line : ℕ) → line < 2 ^ 32 → number_in c.askers line ≡ asked_by settings xs line
  pub births :
      (task : ℕ) → is_task (machine_after settings xs).storage task ≡ true →
      number_in c.births task ≡ began_since settings xs task

-- One more statement was carried out, which the reply answers.
abbrev pub CarriesOut : TrailEntry Statement → Reply → Carried → Carried → Type 0
CarriesOut e reply c after =
    (settings : Settings) (older : List (ℕ × Act)) → IsCarried settings older c →
    IsCarried settings (line_act e ∷ older) after × (reply_to settings older (act_in e.seen) ≡ Some reply)

-- The task asked for what a line took, and it has ended or not.
abbrev pub IsAskerOf : Carried → ℕ → ℕ → Bool → Type 0
IsAskerOf c line task ended =
    (settings : Settings) (xs : List (ℕ × Act)) → IsCarried settings xs c →
    (task ≡ asker settings xs line) × (ended ≡ asker_ended settings xs line)

-- These statements were carried out in turn.
abbrev pub CarriesAll : List (TrailEntry Statement) → Carried → Carried → Type 0
CarriesAll entries c after =
    (settings : Settings) → IsCarried settings [] c → IsCarried settings (reverse (map line_act entries)) after

-- The statements of a script in effect at its end were carried out, or the script can't be followed.
abbrev pub IsCarriedOut : Settings → List ℕ → Result Carried FollowFault → Type 0
IsCarriedOut settings script (Ok carried) =
    (answers : List Marked) × Ended settings script answers × IsCarried settings (standing settings answers) carried
IsCarriedOut settings script (Err fault) = FollowsNot settings script fault

-- ---- one statement

-- A GET of a cell: only that may take an extent that isn't in its reply.
abbrev pub is_get : Act → Bool
is_get (get pool target conditional) = true
is_get _ = false

-- the bytes that are taken, if they are asked for
abbrev pub taken_when : Bool → Bench → ℕ
taken_when asked b = if asked then taken_in b else 0

-- The line is put at one place, and the other places keep theirs.
abbrev pub IsPutAt : ℕ → ℕ → (ℕ → Option ℕ) → (ℕ → Option ℕ) → Type 0
IsPutAt place line old new = (n : ℕ) → n < 2 ^ 32 → new n ≡ (if n == place then Some line else old n)

abbrev pub IsKept : (ℕ → Option ℕ) → (ℕ → Option ℕ) → Type 0
IsKept old new = (n : ℕ) → new n ≡ old n

-- The line got the cell that a reply gives, if it gives one, at the number of the cell's first fullword;
abbrev pub IsCellTaken : Reply → ℕ → (ℕ → Option ℕ) → (ℕ → Option ℕ) → Type 0
IsCellTaken (Cell address) line old new = IsPutAt (address / 4) line old new
IsCellTaken (Obtained address length) line old new = IsKept old new
IsCellTaken (Returned code) line old new = IsKept old new
IsCellTaken (Attached task) line old new = IsKept old new
IsCellTaken (Turn task) line old new = IsKept old new
IsCellTaken Stored line old new = IsKept old new

-- and it began the task.
abbrev pub IsTaskBegun : Reply → ℕ → (ℕ → Option ℕ) → (ℕ → Option ℕ) → Type 0
IsTaskBegun (Attached task) line old new = IsPutAt task line old new
IsTaskBegun (Cell address) line old new = IsKept old new
IsTaskBegun (Obtained address length) line old new = IsKept old new
IsTaskBegun (Returned code) line old new = IsKept old new
IsTaskBegun (Turn task) line old new = IsKept old new
IsTaskBegun Stored line old new = IsKept old new
