-- The records of a task that is attached, and of a turn. Assembler Services Reference, ATTACH; Assembler Services
-- Guide, "Virtual storage management", "Subpool handling".
use Rattle.std.specs.Prelude.{◌≡◌, ℕ, ◌+◌, ◌*◌, Bool, true, false, Option, Some, None, List, [], ◌∷◌, ◌++◌, length}
use Rattle.std.specs.List.{flat_map, list_any}
use Rattle.vsm_model.specs.declared.Subpool.{Subpool}
use Rattle.vsm_model.specs.Passing.{is_bad_list, is_anothers, with_gifts, with_shares}
use Rattle.vsm_model.specs.State.{State}
use Rattle.vsm_model.specs.Tasks.{free_number, with_task, with_zero}
use Rattle.storage_changes.specs.declared.record.Record.{Record}
use Rattle.storage_changes.specs.declared.record.Record.TheVariants.{Own, Task, Turn, Sharer, Pass}
use Rattle.storage_changes.specs.State.{StorageState}

abbrev pub subpool : ℕ → ℕ → Subpool
subpool number owner = record { number = number; owner = owner }

-- a subpool that is made
abbrev pub made : ℕ → ℕ → Record
made number owner = Own (record { subpool = subpool number owner; present = true })

-- a task that sees another's subpool from now on
abbrev pub shared : ℕ → ℕ → ℕ → Record
shared number owner task = Sharer (record { subpool = subpool number owner; task = task; present = true })

-- A number that is given to a task: the subpool that the giver owns passes to it, or it has a new one.
abbrev pub given_records : ℕ → ℕ → Option ℕ → List Record
given_records task number (Some owner) = Pass (record { subpool = subpool number owner; to = task }) ∷ []
given_records task number None = made number task ∷ []

abbrev pub gift_records : StorageState → ℕ → ℕ → List Record
gift_records m task number = given_records task number (m.subpools.sight m.tasks.current number)

-- A number that is shared with a task: the subpool that the current task sees, or a new one of the current task.
abbrev pub sharing_records : ℕ → ℕ → ℕ → Option ℕ → List Record
sharing_records current task number (Some owner) = shared number owner task ∷ []
sharing_records current task number None = made number current ∷ shared number current task ∷ []

abbrev pub share_records : StorageState → ℕ → ℕ → List Record
share_records m task number =
    sharing_records m.tasks.current task number (m.subpools.sight m.tasks.current number)

-- subpool 0 is shared, or it's one of the task's own
abbrev pub zero_records : StorageState → ℕ → Bool → List Record
zero_records m task true = share_records m task 0
zero_records m task false = made 0 task ∷ []

-- A task of this number, with subpool 0, the numbers that it is given, and those that it shares.
abbrev pub attach_records : StorageState → ℕ → Bool → List ℕ → List ℕ → List Record
attach_records m task shares_zero gifts shares =
    Task (record { task = task; parent = m.tasks.current; present = true })
    ∷ zero_records m task shares_zero
    ++ flat_map (gift_records m task) gifts
    ++ flat_map (share_records m task) shares

-- its blank elements
abbrev pub attach_blanks : List ℕ → List ℕ → ℕ
attach_blanks gifts shares = 7 + 2 * (length gifts + length shares)

-- the plain machine with that task
abbrev pub with_attached : State → ℕ → Bool → List ℕ → List ℕ → State
with_attached s task shares_zero gifts shares =
    with_shares (with_gifts (with_zero (with_task s task) task shares_zero) task gifts) task shares

-- The task has the least free number; the numbers are of private storage, each only once and none of them 0; and what
-- is given belongs to nobody else.
pub record CanAttach (s : State) (task : ℕ) (gifts shares : List ℕ) : Type 0 where
  pub number : free_number s ≡ Some task
  pub good : is_bad_list (gifts ++ shares) ≡ false
  pub owned : list_any (is_anothers s) gifts ≡ false

-- another task makes the requests
abbrev pub turn_records : ℕ → List Record
turn_records task = Turn (record { task = task }) ∷ []
