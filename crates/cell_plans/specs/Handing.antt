-- The records by which a cell is handed out. Assembler Services Reference, CPOOL GET.
use Rattle.std.specs.Prelude.{◌≡◌, ℕ, ◌+◌, ◌*◌, ◌^◌, ◌<◌, ◌≤◌, List, ◌∷◌, ◌++◌, Option, None}
use Rattle.vsm_model.specs.declared.replies.Reply.TheVariants.{Cell}
use Rattle.vsm_model.specs.Regions.{doublewords}
use Rattle.vsm_model.specs.Registers.{named_register}
use Rattle.cell_pool.specs.declared.settings.CellSettings.{CellSettings}
use Rattle.storage_changes.specs.CellActions.{extent_blanks, extent_records, handed_out_records}
use Rattle.storage_changes.specs.StorageActions.{register_records}
use Rattle.storage_changes.specs.State.{StorageState}
use Rattle.storage_changes.specs.declared.record.Record.{Record}
use Rattle.storage_plans.specs.ObtainPlans.{place_address, place_blanks, place_pages, place_records}
use Rattle.storage_plans.specs.declared.places.AreaPlace.{AreaPlace}
use Rattle.storage_plans.specs.declared.plan.StoragePlan.{StoragePlan}

-- The registers that are set: the return code, and the cell's address in register 1 and in the one that is named.
abbrev pub cell_registers : Option ℕ → ℕ → List (ℕ × ℕ)
cell_registers named cell = (15, 0) ∷ (1, cell) ∷ named_register named cell

-- The first free cell is handed out, and the registers are set,
abbrev pub cell_records : StorageState → ℕ → ℕ → Option ℕ → List Record
cell_records m id cell named = handed_out_records id cell ++ register_records m (cell_registers named cell)

-- after a further extent at its place, whose first cell it is.
abbrev pub further_records : StorageState → ℕ → CellSettings → AreaPlace → Option ℕ → List Record
further_records m id cells place named =
    place_records cells.subpool (doublewords (cells.secondary * cells.size)) place
    ++ extent_records id (place_address place) cells.secondary
    ++ cell_records m id (place_address place) named

-- A further extent has bytes, and few cells and bytes, and its place has an address.
pub record CanExtend (cells : CellSettings) (place : AreaPlace) : Type 0 where
  pub count : cells.secondary ≤ 2 ^ 12
  pub size : (0 < cells.secondary * cells.size) × (cells.secondary * cells.size ≤ 2 ^ 24)
  pub address : place_address place < 2 ^ 32

-- The plan has these records, with the blank elements and the pages that they take.
pub record IsFurther (m : StorageState) (id : ℕ) (cells : CellSettings) (place : AreaPlace) (named : Option ℕ)
    (plan : StoragePlan) : Type 0 where
  pub emptied : plan.emptied ≡ None
  pub records : plan.records.now.items ≡ further_records m id cells place named
  pub blanks : plan.blanks ≡ place_blanks place + extent_blanks cells.secondary
  pub fresh : plan.fresh ≡ place_pages (doublewords (cells.secondary * cells.size)) place
  pub reply : plan.reply ≡ Cell (place_address place)
