-- Which line took a doubleword or a cell, at whose request, and whether the task that asked has ended.
use Rattle.std.specs.Prelude.{ℕ, ◌==◌, ◌||◌, nat_lt, not, Bool, true, false, if◌then◌else◌, Option, Some, None, List}
use Rattle.std.specs.Prelude.{[], ◌∷◌, map, unwrap_or}
use Rattle.std.specs.List.{list_any}
use Rattle.macro_statements.specs.Requests.{Act}
use Rattle.vsm_model.specs.declared.limits.Settings.{Settings}
use Rattle.vsm_model.specs.declared.replies.Reply.{Reply}
use Rattle.vsm_model.specs.Cells.{is_in_use}
use Rattle.vsm_model.specs.Names.{NamedState, first_named_state}
use Rattle.vsm_model.specs.Standing.{alone, reply_in}
use Rattle.vsm_model.specs.State.{State, is_task}
use Rattle.bench_core.specs.Machine.{statement_step}

-- statements without their lines
abbrev pub acts : List (ℕ × Act) → List Act
acts = map (λ x. x.1)

-- whether a doubleword is taken after a statement, and before it; the line of the statement; and the line that took it
-- by the statements before
abbrev pub since : Bool → Bool → ℕ → Option ℕ → Option ℕ
since false before line older = None
since true true line older = older
since true false line older = Some line

-- The cell at an address is in use, in some cell pool.
abbrev pub is_cell_in_use : State → ℕ → Bool
is_cell_in_use s cell = list_any (λ row. is_in_use row.1 cell) s.cell_pools

module _ (settings : Settings) where
  -- the machine after only these statements, the newest first
  abbrev pub machine_after : List (ℕ × Act) → NamedState
  machine_after xs = alone first_named_state (statement_step settings) (acts xs)

  -- the reply to the newest of them
  abbrev pub reply_to : List (ℕ × Act) → Act → Option Reply
  reply_to older x = reply_in (statement_step settings (machine_after older) x)

  -- the storage after only these statements
  abbrev pub storage_after : List Act → State
  storage_after xs = (alone first_named_state (statement_step settings) xs).storage

  -- The line of the newest of these statements after which a doubleword is taken and before which it wasn't; none if it
  -- isn't taken after all of them. The newest is first.
  abbrev pub taken_since : List (ℕ × Act) → ℕ → Option ℕ
  taken_since [] d = None
  taken_since (x ∷ older) d =
      since ((storage_after (acts (x ∷ older))).taken d) ((storage_after (acts older)).taken d) x.0
      (taken_since older d)

  -- The line of the newest of these statements after which a cell is in use and before which it wasn't.
  abbrev pub got_since : List (ℕ × Act) → ℕ → Option ℕ
  got_since [] cell = None
  got_since (x ∷ older) cell =
      since (is_cell_in_use (machine_after (x ∷ older)).storage cell)
      (is_cell_in_use (machine_after older).storage cell) x.0 (got_since older cell)

  -- The task that was current before the statement of a line, and so asked for what it took.
  abbrev pub asked_by : List (ℕ × Act) → ℕ → Option ℕ
  asked_by [] line = None
  asked_by (x ∷ older) line = if line == x.0 then Some (machine_after older).storage.current else asked_by older line

  -- The line of the newest of these statements after which a task exists and before which it didn't.
  abbrev pub began_since : List (ℕ × Act) → ℕ → Option ℕ
  began_since [] task = None
  began_since (x ∷ older) task =
      since (is_task (machine_after (x ∷ older)).storage task) (is_task (machine_after older).storage task) x.0
      (began_since older task)

-- A task has ended since a line if it doesn't exist, or if the one that exists began later.
abbrev pub is_later : Option ℕ → ℕ → Bool
is_later None line = false
is_later (Some began) line = nat_lt line began

abbrev pub has_ended : State → Option ℕ → ℕ → ℕ → Bool
has_ended s began task line = not (is_task s task) || is_later began line

module _ (settings : Settings) (xs : List (ℕ × Act)) where
  -- The task that asked for what a line took, and whether it has ended.
  abbrev pub asker : ℕ → ℕ
  asker line = unwrap_or (asked_by settings xs line) 0

  abbrev pub asker_ended : ℕ → Bool
  asker_ended line =
      has_ended (machine_after settings xs).storage (began_since settings xs (asker line)) (asker line) line
