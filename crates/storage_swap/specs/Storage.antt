-- What a storage in elements and frames is as a state, and whose its elements are. No other module names the words of
-- the structures that it is made of.
use Rattle.std.specs.Prelude.{◌≡◌, ℕ, ◌+◌, ◌-◌, ◌/◌, ◌%◌, ◌≤◌, nat_lt, true, List, Option, None, if◌then◌else◌}
use Rattle.vsm_elements.specs.Owners.{times}
use Rattle.descriptor_queue.specs.Pages.{is_unassigned, IsPages}
use Rattle.descriptor_queue.specs.Pages
use Rattle.raw_region.specs.Frames.{PageFrame}
use Rattle.raw_region.specs.Pages.{bytes_at, byte_at, byte_of}
use Rattle.raw_region.specs.Parked.{held_at}
use Rattle.task_tree.specs.TaskTree.{current, parent, word, IsTaskTree}
use Rattle.task_tree.specs.TaskTree
use Rattle.subpool_storage.specs.declared.storage.SubpoolStorage.{SubpoolStorage}
use Rattle.subpool_storage.specs.SubpoolStorage.{subpools_of}
use Rattle.subpool_storage.specs.SubpoolStorage
use Rattle.storage_changes.specs.State.{Tasks, StorageState}
use Rattle.storage_changes.specs.Walk.{Walk}
use Rattle.storage_swap.specs.declared.storage.Parts.{Parts}

-- how often the storage holds an element
abbrev pub hold : Parts → ℕ → ℕ
hold p i =
    times i (Pages.owned p.elements p.unassigned) + SubpoolStorage.hold p.elements p.subpools i
    + times i (TaskTree.owned p.elements p.tasks)

-- each structure is well formed
pub record Stand (p : Parts) : Type 0 where
  pub unassigned : IsPages p.elements p.unassigned
  pub subpools : SubpoolStorage.Stands p.elements p.subpools
  pub tasks : IsTaskTree p.elements p.tasks

-- the tasks and their registers: a number past 15 is no register's
abbrev pub tasks_of : Parts → Tasks
tasks_of p =
    record {
      current = current p.tasks;
      parents = λ task. parent p.elements p.tasks task;
      words = λ task register. if nat_lt register 16 then word p.elements p.tasks task register else 0;
    }

-- the state: an unassigned page has no bytes
abbrev pub state_of : Parts → StorageState
state_of p =
    record {
      tasks = tasks_of p;
      subpools = subpools_of p.elements p.subpools;
      unassigned = λ page. is_unassigned p.elements p.unassigned page;
      bytes = λ a. if is_unassigned p.elements p.unassigned (a / 4096) then None else byte_at p.region a;
    }

-- an unassigned page has no frame
abbrev pub IsFrameless : Parts → Type 0
IsFrameless p = (page : ℕ) → (state_of p).unassigned page ≡ true → bytes_at p.region page ≡ None

-- the byte at an address, if its page's frame is among these
abbrev pub byte_held : List PageFrame → ℕ → Option ℕ
byte_held frames a = byte_of (held_at frames (a / 4096)) (a % 4096)

-- Among the records of a change, if `kept` elements are no blank ones of the change: the frames that are yet to be
-- brought are in the tables at pages that are unassigned.
abbrev pub walk_of : Parts → List PageFrame → SubpoolStorage → ℕ → Walk
walk_of p given parked kept =
    record {
      state = state_of p;
      brought = λ a. if is_unassigned p.elements p.unassigned (a / 4096) then byte_at p.region a else None;
      given = byte_held given;
      parked = subpools_of p.elements parked;
      spare = p.elements.spare - kept;
    }

-- how often the storage and the subpools that a change has parked hold an element
abbrev pub hold_with : Parts → SubpoolStorage → ℕ → ℕ
hold_with p parked i = hold p i + SubpoolStorage.hold p.elements parked i

-- the storage and the parked subpools next to it are well formed, and no element has two owners
pub record StandsWith (p : Parts) (others : SubpoolStorage) : Type 0 where
  pub storage : Stand p
  pub parked : SubpoolStorage.Stands p.elements others
  pub once : (i : ℕ) → hold_with p others i ≤ 1
