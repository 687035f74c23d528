-- Each action's records lead to its effect on the plain machine.
use Rattle.std.specs.Prelude.{◌≡◌, ℕ, ◌+◌, ◌*◌, ◌<◌, Bool, true, List, [], ◌++◌, length}
use Rattle.vsm_model.specs.declared.limits.Settings.{Settings}
use Rattle.vsm_model.specs.Ending.{is_in_subtree, without_tasks}
use Rattle.vsm_model.specs.Regions.{settings_valid}
use Rattle.vsm_model.specs.Registers.{with_registers}
use Rattle.vsm_model.specs.Search.{is_in}
use Rattle.vsm_model.specs.State.{State, is_task}
use Rattle.vsm_model.specs.WellFormed.{IsWellFormed, TasksAreSound}
use Rattle.storage_changes.specs.NamedPools.{AreNamed}
use Rattle.storage_changes.specs.Changes.{change_parking}
use Rattle.storage_changes.specs.Meaning.{model_of, IsSound}
use Rattle.storage_changes.specs.State.{StorageState}
use Rattle.storage_changes.specs.StorageActions.{register_records}
use Rattle.storage_changes.specs.Leads.{Leads, AreRegisters}
use Rattle.storage_changes.specs.Attaching.{attach_records, attach_blanks, with_attached, CanAttach, turn_records}
use Rattle.storage_changes.specs.Ending.{ended_below, owned_by_these, end_records, end_blanks, with_turn}
use Rattle.storage_changes.specs.Ending.{extents_ended, sights_ended, weight_ended, AreSubtasksFirst, CanEnd}

-- A task is attached, with its subpools, and registers of the current task are set;
abbrev pub AttachingLeads : Type 0
AttachingLeads =
    (settings : Settings) (m : StorageState) (task : ℕ) (shares_zero : Bool) (gifts shares : List ℕ)
    (rows : List (ℕ × ℕ)) →
    IsSound settings m → AreNamed m.subpools.cells → CanAttach (model_of m) task gifts shares → AreRegisters rows →
    IsWellFormed settings (with_registers (with_attached (model_of m) task shares_zero gifts shares) rows) →
    Leads settings m
    (change_parking [] (attach_records m task shares_zero gifts shares ++ register_records m rows)
    (attach_blanks gifts shares))
    (with_registers (with_attached (model_of m) task shares_zero gifts shares) rows)

-- it's another task's turn;
abbrev pub TurningLeads : Type 0
TurningLeads =
    (settings : Settings) (m : StorageState) (task : ℕ) →
    IsSound settings m → is_task (model_of m) task ≡ true →
    IsWellFormed settings (record (model_of m) { current = task }) →
    Leads settings m (change_parking [] (turn_records task) 0) (record (model_of m) { current = task })

-- or tasks end, with what they own, and registers are set of the task whose turn it is then.
abbrev pub EndingLeads : Type 0
EndingLeads =
    (settings : Settings) (m : StorageState) (ended : List ℕ) (next : ℕ) (rows : List (ℕ × ℕ)) →
    settings_valid settings ≡ true → IsSound settings m → AreNamed m.subpools.cells → CanEnd (model_of m) ended next →
    AreRegisters rows →
    IsWellFormed settings (with_registers (without_tasks (record (model_of m) { current = next }) (is_in ended)) rows) →
    Leads settings m
    (change_parking (owned_by_these m.subpools ended)
    (end_records m ended next ++ register_records (with_turn m next) rows) (end_blanks m ended))
    (with_registers (without_tasks (record (model_of m) { current = next }) (is_in ended)) rows)

-- A subtree's tasks are in an order in which they can end, and are exactly those that are looked for.
abbrev pub EndsAreInOrder : Type 0
EndsAreInOrder =
    (s : State) (top : ℕ) → TasksAreSound s → is_task s top ≡ true →
    AreSubtasksFirst s.parents [] (ended_below s.parents top)
    × ((task : ℕ) → is_in (ended_below s.parents top) task ≡ is_in_subtree s top task)

-- Tasks that end take five records each, two for each of their subpools, one for each extent of these and for each
-- other row of sight that is removed, and one for the turn. With the blank elements, a parked subpool for each that is
-- removed, and one more record for a register, that's fewer than 32 elements, and 8 for each thing that leaves.
abbrev pub EndsAreShort : Type 0
EndsAreShort =
    (m : StorageState) (ended : List ℕ) (next : ℕ) →
    let subpools = length (owned_by_these m.subpools ended) in
    (length (end_records m ended next)
    ≡ 1 + 5 * length ended + 2 * subpools + extents_ended m.subpools ended + sights_ended m.subpools ended)
    × (end_blanks m ended ≡ 1 + subpools + extents_ended m.subpools ended)
    × (subpools + (length (end_records m ended next) + 1) + end_blanks m ended
    < 32 + 8 * weight_ended m.subpools ended)
