-- What the plans of cell pools lead to on the plain machine. Assembler Services Reference, CPOOL; Assembler Services
-- Guide, "Virtual storage management", "Using the CPOOL macro".
use Rattle.std.specs.Prelude.{◌≡◌, ℕ, ◌+◌, ◌*◌, ◌/◌, ◌^◌, ◌<◌, ◌≤◌, Bool, true, false, ◌&&◌, nat_le}
use Rattle.std.specs.Prelude.{if◌then◌else◌, All, IfSome, IsSome, is_some, option_map}
use Rattle.std.specs.Prelude.{Option, Some, None, List, length, Result, Ok, Err, [], ◌∷◌, ◌++◌}
use Rattle.run_set.specs.Runs.{inside}
use Rattle.vsm_model.specs.declared.causes.Cause.{Cause}
use Rattle.vsm_model.specs.declared.limits.Settings.{Settings}
use Rattle.vsm_model.specs.declared.replies.Reply.TheVariants.{Returned}
use Rattle.vsm_model.specs.declared.services.Build.{Build}
use Rattle.vsm_model.specs.Cells.{are_cells, has_no_cell, secondary_count}
use Rattle.vsm_model.specs.CellPools.{CellPool, cell_pool_in}
use Rattle.vsm_model.specs.Regions.{doublewords}
use Rattle.vsm_model.specs.Services.{Service, build, get, delete}
use Rattle.vsm_model.specs.Standing as outcome
use Rattle.vsm_model.specs.Standing.{Refused}
use Rattle.vsm_model.specs.Step.{step}
use Rattle.cell_pool.specs.Pools.{Pool}
use Rattle.subpool_storage.specs.Subpools.{Subpools, IsUnnamed, is_there, built_pool}
use Rattle.storage_changes.specs.declared.record.Record.{Record}
use Rattle.storage_changes.specs.State.{StorageState}
use Rattle.storage_changes.specs.Changes.{Change, change_of, change_building, no_pages}
use Rattle.storage_changes.specs.Meaning.{model_of}
use Rattle.storage_changes.specs.StorageActions.{register_records}
use Rattle.storage_plans.specs.declared.plan.StoragePlan.{StoragePlan}
use Rattle.storage_plans.specs.Plans.{Assigns, IsAccepted, change_in}
use Rattle.storage_changes.specs.CellActions.{deleting_records, deleting_blanks, extents_given_back}
use Rattle.cell_plans.specs.declared.build.BuildPlan.{BuildPlan}
use Rattle.cell_plans.specs.declared.delete.DeletePlan.{DeletePlan}

-- The pages that become assigned are unassigned, its blank elements are few (a further extent of 4,096 cells takes
-- 4,102), and a subpool that is emptied exists.
pub record HasRecords (m : StorageState) (plan : StoragePlan) : Type 0 where
  pub few : plan.blanks ≤ 2 ^ 13
  pub range : plan.fresh.start + plan.fresh.len ≤ 2 ^ 20
  pub there : IfSome plan.emptied (λ p. is_there m.subpools p ≡ true)
  pub unassigned : (page : ℕ) → inside page plan.fresh ≡ true → m.unassigned page ≡ true

-- how many cells a further extent of a cell pool has, if it exists and has no free cell
abbrev pub further_cells : Option CellPool → ℕ
further_cells None = 0
further_cells (Some pool) = if has_no_cell pool then pool.secondary else 0

-- how many are removed with a cell pool, if it exists: itself, and its extents
abbrev pub pool_and_extents : Option CellPool → ℕ
pool_and_extents None = 0
pool_and_extents (Some pool) = 1 + length pool.extents

-- How heavy a service on cell pools is: how many cells it makes, and how many cell pools and extents it removes.
abbrev pub cells_weight : StorageState → Service → ℕ
cells_weight m (build name header b) = b.primary
cells_weight m (get name g) =
    if g.conditional then 0 else further_cells (cell_pool_in (model_of m).cell_pools name)
cells_weight m (delete name) = pool_and_extents (cell_pool_in (model_of m).cell_pools name)
cells_weight m _ = 0

-- No subpool is emptied, and the blank elements are few for how heavy the service is.
pub record IsLight (m : StorageState) (x : Service) (plan : StoragePlan) : Type 0 where
  pub none : plan.emptied ≡ None
  pub few : plan.blanks ≤ 7 + 8 * cells_weight m x

-- A cell that is handed out or given back was planned, with frames for pages that become assigned; or it's refused for
-- this cause.
abbrev pub IsCellPlanned : Settings → Bool → StorageState → Service → Result StoragePlan Cause → Type 0
IsCellPlanned settings names_full m x (Ok plan) =
    (∥ IsAccepted settings names_full m x (change_in m plan) plan.reply ∥₁) × HasRecords m plan × IsLight m x plan
    × Assigns m (change_in m plan) plan.fresh
IsCellPlanned settings names_full m x (Err cause) = step settings names_full (model_of m) x ≡ Refused cause

-- What a BUILD that no cause except `NoStorage` refuses asks for.
pub record IsOpen (m : StorageState) (name : List ℕ) (b : Build) : Type 0 where
  pub allowed : b.number ≤ 127
  pub cells : (are_cells b.size b.primary && are_cells b.size (secondary_count b)) ≡ true
  pub unnamed : IsUnnamed m.subpools name
  pub none : is_some (cell_pool_in (model_of m).cell_pools name) ≡ false
  pub few : nat_le 256 (length (model_of m).cell_pools) ≡ false

-- the cell pool that is created, under an id: the cells of its one extent are free
abbrev pub new_pool : BuildPlan → ℕ → Pool
new_pool plan id =
    built_pool id plan.name.now plan.settings (option_map (λ text. text.now) plan.header) plan.start
    plan.settings.primary

-- the change that creates it
abbrev pub build_change : BuildPlan → ℕ → Change
build_change plan id = change_building (new_pool plan id) (change_of plan.records.now.items plan.blanks plan.fresh)

-- Its name and header are short, it has cells, with a size and an end in storage, its blank elements are few, and the
-- pages that become assigned are unassigned.
pub record CanBeBuilt (m : StorageState) (plan : BuildPlan) : Type 0 where
  pub name : length plan.name.now ≤ 63
  pub header : IfSome plan.header (λ text. length text.now ≤ 24)
  pub some : 0 < plan.settings.primary
  pub size : 0 < plan.settings.size
  pub count : plan.settings.primary ≤ 2 ^ 12
  pub high : plan.start + plan.settings.primary * plan.settings.size ≤ 2 ^ 32
  pub few : plan.blanks ≤ 5
  pub range : plan.fresh.start + plan.fresh.len ≤ 2 ^ 20
  pub unassigned : (page : ℕ) → inside page plan.fresh ≡ true → m.unassigned page ≡ true

-- The creation of a cell pool was planned, under any id that none has, with no more cells than the service's weight,
-- and with frames for pages that become assigned; or it's refused for this cause. That it's accepted, and that the
-- pages are assigned, is stated separately, as it doesn't need such an id.
abbrev pub IsBuildPlanned : Settings → Bool → StorageState → Service → Result BuildPlan Cause → Type 0
IsBuildPlanned settings names_full m x (Ok plan) =
    outcome.IsAccepted (step settings names_full (model_of m) x)
    × ((id : ℕ) → id < 2 ^ 32 → m.subpools.cells id ≡ None
    → ∥ IsAccepted settings names_full m x (build_change plan id) plan.reply ∥₁)
    × CanBeBuilt m plan
    × (plan.settings.primary ≤ cells_weight m x)
    × ((id : ℕ) → Assigns m (build_change plan id) plan.fresh)
IsBuildPlanned settings names_full m x (Err cause) = step settings names_full (model_of m) x ≡ Refused cause

-- the change that deletes a cell pool
abbrev pub deleting_change : StorageState → Option Pool → Change
deleting_change m None = change_of [] 0 no_pages
deleting_change m (Some p) =
    change_of (deleting_records m.subpools p ++ register_records m ((15, 0) ∷ [])) (deleting_blanks p) no_pages

abbrev pub delete_change : StorageState → DeletePlan → Change
delete_change m plan = deleting_change m (m.subpools.cells plan.pool)

-- how many extents are removed with it, if it exists
abbrev pub extents_of_pool : Option Pool → ℕ
extents_of_pool None = 0
extents_of_pool (Some p) = length p.extents

-- the records by which these are given back, the first one first
abbrev pub pool_given_back : Subpools → Option Pool → List Record
pool_given_back m None = []
pool_given_back m (Some p) = extents_given_back m p.settings.subpool p.settings.size p.extents

-- how many elements it takes to give the extents of a cell pool back: one for each record, and the blank ones
abbrev pub extents_need : StorageState → ℕ → ℕ
extents_need m id =
    length (pool_given_back m.subpools (m.subpools.cells id)) + (4 * extents_of_pool (m.subpools.cells id) + 1)

-- The cell pool exists, with its extents in storage, each of which has a doubleword.
pub record CanBeDeleted (m : StorageState) (plan : DeletePlan) : Type 0 where
  pub there : IsSome (m.subpools.cells plan.pool)
  pub extents : IfSome (m.subpools.cells plan.pool) (λ p. All
      (λ x. (0 < doublewords (x.count * p.settings.size)) × (x.count * p.settings.size < 2 ^ 32)
      × (x.start / 8 + doublewords (x.count * p.settings.size) ≤ 2 ^ 29)) p.extents)

-- A cell pool's deletion was planned, with no more extents than the service's weight; or it's refused for this cause.
abbrev pub IsDeletePlanned : Settings → Bool → StorageState → Service → Result DeletePlan Cause → Type 0
IsDeletePlanned settings names_full m x (Ok plan) =
    (∥ IsAccepted settings names_full m x (delete_change m plan) (Returned 0) ∥₁) × CanBeDeleted m plan
    × (1 + extents_of_pool (m.subpools.cells plan.pool) ≤ cells_weight m x)
IsDeletePlanned settings names_full m x (Err cause) = step settings names_full (model_of m) x ≡ Refused cause
