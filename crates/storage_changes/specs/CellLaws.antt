-- Each action's records lead to its effect on the plain machine.
use Rattle.std.specs.Prelude.{◌≡◌, ℕ, ◌+◌, ◌^◌, ◌<◌, Bool, true, None, Some, List, [], ◌∷◌, ◌++◌}
use Rattle.vsm_model.specs.declared.limits.Settings.{Settings}
use Rattle.vsm_model.specs.Areas.{Place, address_of}
use Rattle.vsm_model.specs.Cells.{with_pool, deleted}
use Rattle.vsm_model.specs.Obtaining.{with_area}
use Rattle.vsm_model.specs.Regions.{settings_valid}
use Rattle.vsm_model.specs.Registers.{with_registers}
use Rattle.vsm_model.specs.WellFormed.{IsWellFormed}
use Rattle.cell_pool.specs.Pools.{Pool, uses, cells_from}
use Rattle.storage_changes.specs.NamedPools.{AreNamed}
use Rattle.storage_changes.specs.PoolTable.{cell_pool_of}
use Rattle.subpool_storage.specs.Subpools.{is_there, IsUnnamed}
use Rattle.storage_changes.specs.State.{StorageState}
use Rattle.storage_changes.specs.Meaning.{model_of, IsSound}
use Rattle.storage_changes.specs.Changes.{change_of, change_building}
use Rattle.storage_changes.specs.StorageActions.{run_of, own_records, register_records}
use Rattle.storage_changes.specs.Leads.{Leads, with_new, CanOwn, AreRegisters}
use Rattle.storage_changes.specs.CellActions.{handed_out_records, given_back_records, extent_records, extent_blanks}
use Rattle.storage_changes.specs.CellActions.{area_records, area_blanks, area_pages, HasRoom, doublewords_for}
use Rattle.storage_changes.specs.CellActions.{with_handed_out, with_given_back, with_extended}
use Rattle.storage_changes.specs.CellActions.{deleting_records, deleting_blanks}

-- A cell pool hands out its first free cell,
abbrev pub HandingOutLeads : Type 0
HandingOutLeads =
    (settings : Settings) (m : StorageState) (p : Pool) (cell : ℕ) (rest : List ℕ) (rows : List (ℕ × ℕ)) →
    IsSound settings m → AreNamed m.subpools.cells → m.subpools.cells p.id ≡ Some p → p.cells ≡ cell ∷ rest →
    AreRegisters rows →
    IsWellFormed settings (with_registers (with_handed_out (model_of m) p) rows) →
    Leads settings m (change_of (handed_out_records p.id cell ++ register_records m rows) 0 (run_of 0 0))
    (with_registers (with_handed_out (model_of m) p) rows)

-- or, if none is free, the first one of another extent;
abbrev pub ExtendingLeads : Type 0
ExtendingLeads =
    (settings : Settings) (m : StorageState) (p : Pool) (count : ℕ) (goes : Place) (rows : List (ℕ × ℕ)) →
    IsSound settings m → AreNamed m.subpools.cells → m.subpools.cells p.id ≡ Some p → p.cells ≡ [] →
    0 < count → 0 < p.settings.size → is_there m.subpools p.settings.subpool ≡ true →
    HasRoom m p.settings.subpool (doublewords_for p count) goes → AreRegisters rows →
    IsWellFormed settings (with_registers (with_extended (model_of m) p count goes) rows) →
    Leads settings m
    (change_of
    (area_records p.settings.subpool (doublewords_for p count) goes
    ++ extent_records p.id (address_of goes) count
    ++ handed_out_records p.id (address_of goes)
    ++ register_records m rows)
    (area_blanks goes + extent_blanks count) (area_pages (doublewords_for p count) goes))
    (with_registers (with_extended (model_of m) p count goes) rows)

-- a cell that is in use is given back;
abbrev pub GivingBackCellsLeads : Type 0
GivingBackCellsLeads =
    (settings : Settings) (m : StorageState) (p : Pool) (cell : ℕ) (rows : List (ℕ × ℕ)) →
    IsSound settings m → AreNamed m.subpools.cells → m.subpools.cells p.id ≡ Some p → uses p cell ≡ true →
    AreRegisters rows →
    IsWellFormed settings (with_registers (with_given_back (model_of m) p cell) rows) →
    Leads settings m (change_of (given_back_records p.id cell ++ register_records m rows) 0 (run_of 0 0))
    (with_registers (with_given_back (model_of m) p cell) rows)

-- a cell pool is created, with its first extent, whose cells are free, in a subpool that exists or is made first.
abbrev pub BuildingLeads : Type 0
BuildingLeads =
    (settings : Settings) (m : StorageState) (p : Pool) (is_new : Bool) (count : ℕ) (goes : Place)
    (rows : List (ℕ × ℕ)) →
    IsSound settings m → AreNamed m.subpools.cells → m.subpools.cells p.id ≡ None → p.id < 2 ^ 32 →
    IsUnnamed m.subpools p.name → CanOwn m p.settings.subpool is_new → 0 < count → 0 < p.settings.size →
    p.extents ≡ record { start = address_of goes; count = count } ∷ [] →
    p.cells ≡ cells_from p.settings.size (address_of goes) count →
    HasRoom m p.settings.subpool (doublewords_for p count) goes → AreRegisters rows →
    IsWellFormed settings
    (with_registers
    (with_pool
    (with_area (with_new (model_of m) p.settings.subpool is_new) p.settings.subpool (doublewords_for p count) goes)
    p.name (cell_pool_of p)) rows) →
    Leads settings m
    (change_building p
    (change_of
    (own_records p.settings.subpool is_new ++ area_records p.settings.subpool (doublewords_for p count) goes
    ++ register_records m rows)
    (area_blanks goes) (area_pages (doublewords_for p count) goes)))
    (with_registers
    (with_pool
    (with_area (with_new (model_of m) p.settings.subpool is_new) p.settings.subpool (doublewords_for p count) goes)
    p.name (cell_pool_of p)) rows)

-- A cell pool is deleted, and each of its extents is given back with the pages that it empties.
abbrev pub DeletingLeads : Type 0
DeletingLeads =
    (settings : Settings) (m : StorageState) (p : Pool) (rows : List (ℕ × ℕ)) →
    settings_valid settings ≡ true → IsSound settings m → AreNamed m.subpools.cells → m.subpools.cells p.id ≡ Some p →
    AreRegisters rows →
    IsWellFormed settings (with_registers (deleted (model_of m) p.name).0 rows) →
    Leads settings m
    (change_of (deleting_records m.subpools p ++ register_records m rows) (deleting_blanks p) (run_of 0 0))
    (with_registers (deleted (model_of m) p.name).0 rows)
