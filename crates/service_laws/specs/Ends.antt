-- What the end of tasks leaves: DETACH, and the bench's own ENDTASK.
-- Assembler Services Guide, "Virtual storage management", "Subpool handling": when a task ends, the subpools that it
-- owns are released, and those that it shares stay. Assembler Services Reference, DETACH.
use Rattle.std.specs.Prelude.{◌≡◌, ◌≢◌, ◌⊎◌, ◌↔◌, ℕ, ◌/◌, Bool, true, false, ◌==◌, Some, None, List}
use Rattle.vsm_model.specs.declared.Subpool.{Subpool}
use Rattle.vsm_model.specs.declared.limits.Settings.{Settings}
use Rattle.vsm_model.specs.declared.replies.Reply.{Reply}
use Rattle.vsm_model.specs.declared.replies.Reply.TheVariants.{Returned, Turn}
use Rattle.vsm_model.specs.CellPools.{CellPool, cell_pool_in}
use Rattle.vsm_model.specs.State.{State, is_task}
use Rattle.vsm_model.specs.Services.{detach, end_task}
use Rattle.vsm_model.specs.Standing.{Accepted}
use Rattle.vsm_model.specs.Ending.{without_tasks}
use Rattle.vsm_model.specs.Step.{step}
use Rattle.vsm_model.specs.WellFormed.{IsWellFormed}
use Rattle.service_laws.specs.Trees.{IsInSubtree}

-- Tasks that have ended own no page and see no subpool, no task sees one of theirs, and none of them is a task.
abbrev pub TheEndedLeaveNothing : Type 0
TheEndedLeaveNothing =
    (s : State) (these : ℕ → Bool) →
    ((k : ℕ) (p : Subpool) → (without_tasks s these).pages k ≡ Some p → these p.owner ≡ false)
    × ((task number owner : ℕ) →
    (without_tasks s these).sight task number ≡ Some owner → (these task ≡ false) × (these owner ≡ false))
    × ((task : ℕ) → is_task (without_tasks s these) task ≡ true → these task ≡ false)

-- What the others own stays as it was.
abbrev pub TheOthersKeepTheirPages : Type 0
TheOthersKeepTheirPages =
    (s : State) (these : ℕ → Bool) (k : ℕ) (p : Subpool) → s.pages k ≡ Some p → these p.owner ≡ false →
    (without_tasks s these).pages k ≡ Some p

-- From s to t, these tasks have ended, and of subpools and storage exactly what they owned is gone: what they only
-- shared stays, with its bytes. (Nothing is said of the current task and of registers.)
pub record HaveEnded (s t : State) (these : ℕ → Bool) : Type 0 where
  -- they are no tasks, and all others have their parents
  pub no_task : (task : ℕ) → these task ≡ true → t.parents task ≡ None
  pub other_tasks : (task : ℕ) → these task ≡ false → t.parents task ≡ s.parents task
  -- their subpools are gone, and all others stay
  pub no_subpool : (number owner : ℕ) → these owner ≡ true → t.subpools number owner ≡ false
  pub other_subpools : (number owner : ℕ) → these owner ≡ false → t.subpools number owner ≡ s.subpools number owner
  -- they see nothing, and a task that saw a subpool of theirs sees none; the others see what they saw, and nothing new
  -- is seen
  pub no_sight : (task number : ℕ) → these task ≡ true → t.sight task number ≡ None
  pub no_sight_of_theirs :
      (task number owner : ℕ) → s.sight task number ≡ Some owner → these owner ≡ true → t.sight task number ≡ None
  pub other_sight :
      (task number owner : ℕ) → s.sight task number ≡ Some owner → these task ≡ false → these owner ≡ false →
      t.sight task number ≡ Some owner
  pub no_new_sight : (task number : ℕ) → s.sight task number ≡ None → t.sight task number ≡ None
  -- the pages of their subpools are unassigned, and all others stay with theirs
  pub no_page : (k : ℕ) (p : Subpool) → s.pages k ≡ Some p → these p.owner ≡ true → t.pages k ≡ None
  pub other_pages : (k : ℕ) (p : Subpool) → s.pages k ≡ Some p → these p.owner ≡ false → t.pages k ≡ Some p
  pub no_new_page : (k : ℕ) → s.pages k ≡ None → t.pages k ≡ None
  -- the doublewords and the bytes of those pages are gone, and all others stay
  pub no_doubleword :
      (d : ℕ) (p : Subpool) → s.pages (d / 512) ≡ Some p → these p.owner ≡ true → t.taken d ≡ false
  pub other_doublewords :
      (d : ℕ) → ((p : Subpool) → s.pages (d / 512) ≡ Some p → these p.owner ≡ false) → t.taken d ≡ s.taken d
  pub no_byte : (a : ℕ) (p : Subpool) → s.pages (a / 4096) ≡ Some p → these p.owner ≡ true → t.bytes a ≡ None
  pub other_bytes :
      (a : ℕ) → ((p : Subpool) → s.pages (a / 4096) ≡ Some p → these p.owner ≡ false) → t.bytes a ≡ s.bytes a
  -- the cell pools of their subpools are gone, and all others stay
  pub no_cell_pool :
      (name : List ℕ) (pool : CellPool) → cell_pool_in s.cell_pools name ≡ Some pool →
      these pool.subpool.owner ≡ true → cell_pool_in t.cell_pools name ≡ None
  pub other_cell_pools :
      (name : List ℕ) (pool : CellPool) → cell_pool_in s.cell_pools name ≡ Some pool →
      these pool.subpool.owner ≡ false → cell_pool_in t.cell_pools name ≡ Some pool
  pub no_new_cell_pool :
      (name : List ℕ) → cell_pool_in s.cell_pools name ≡ None → cell_pool_in t.cell_pools name ≡ None

-- From s to t, the task was detached.
pub record IsDetached (s t : State) (task : ℕ) : Type 0 where
  -- it was a subtask of the current one
  pub was_subtask : s.parents task ≡ Some s.current
  -- it and all tasks below it have ended, and no others; the current one isn't among them, and stays current
  pub these : ℕ → Bool
  pub are_all_below : (other : ℕ) → (these other ≡ true) ↔ IsInSubtree s task other
  pub have_ended : HaveEnded s t these
  pub current_stays : these s.current ≡ false
  pub current : t.current ≡ s.current
  -- their registers are gone; register 15 of the current task is 0, and no other register changes
  pub no_words : (other register : ℕ) → these other ≡ true → t.words other register ≡ 0
  pub register_15 : t.words s.current 15 ≡ 0
  pub other_registers :
      (other register : ℕ) → these other ≡ false → (other ≢ s.current) ⊎ (register ≢ 15) →
      t.words other register ≡ s.words other register

-- An accepted DETACH ends the task and all tasks below it.
abbrev pub DetachEndsTheSubtree : Type 0
DetachEndsTheSubtree =
    (settings : Settings) (names_full : Bool) (s t : State) (task : ℕ) (reply : Reply) → IsWellFormed settings s →
    step settings names_full s (detach task) ≡ Accepted t reply → IsDetached s t task × (reply ≡ Returned 0)

-- From s to t, the current task has ended.
pub record HasEnded (s t : State) : Type 0 where
  -- it had no subtask, and wasn't task 1
  pub no_subtask : (task : ℕ) → s.parents task ≢ Some s.current
  pub not_first : s.current ≢ 1
  -- no other task has ended, and its parent is current
  pub have_ended : HaveEnded s t (λ task. task == s.current)
  pub turn : s.parents s.current ≡ Some t.current
  -- its registers are gone, and no other register changes
  pub no_words : (register : ℕ) → t.words s.current register ≡ 0
  pub other_registers : (task register : ℕ) → task ≢ s.current → t.words task register ≡ s.words task register

-- An accepted ENDTASK ends the current task, and then it is its parent's turn.
abbrev pub EndTaskEndsTheCurrentTask : Type 0
EndTaskEndsTheCurrentTask =
    (settings : Settings) (names_full : Bool) (s t : State) (reply : Reply) → IsWellFormed settings s →
    step settings names_full s end_task ≡ Accepted t reply → HasEnded s t × (reply ≡ Turn t.current)
