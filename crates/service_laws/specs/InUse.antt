-- Cells that are in use: they lie apart, and none is handed out twice.
-- Assembler Services Reference, CPOOL; Assembler Services Guide, "Virtual storage management", "Using the CPOOL macro".
use Rattle.std.specs.Prelude.{◌≡◌, ◌≢◌, ◌⊎◌, ℕ, ◌+◌, ◌≤◌, Bool, true, Some, None, List, [], ◌∷◌, All}
use Rattle.vsm_model.specs.declared.limits.Settings.{Settings}
use Rattle.vsm_model.specs.declared.replies.Reply.{Reply}
use Rattle.vsm_model.specs.declared.replies.Reply.TheVariants.{Cell}
use Rattle.vsm_model.specs.declared.services.Get.{Get}
use Rattle.vsm_model.specs.Search.{is_in}
use Rattle.vsm_model.specs.CellPools.{CellPool, CellPools, cell_pool_in, cells_of}
use Rattle.vsm_model.specs.State.{State}
use Rattle.vsm_model.specs.Services.{Service, whole, detach, end_task, get, free, delete}
use Rattle.vsm_model.specs.Cells.{is_in_use}
use Rattle.vsm_model.specs.Standing.{Accepted}
use Rattle.vsm_model.specs.Step.{step}
use Rattle.vsm_model.specs.WellFormed.{IsWellFormed}

-- the address is that of a cell which was handed out from the cell pool of the name, and not freed
abbrev pub IsInUse : CellPools → List ℕ → ℕ → Type 0
IsInUse table name cell = (pool : CellPool) × (cell_pool_in table name ≡ Some pool) × (is_in_use pool cell ≡ true)

-- a cell of one size ends before another one begins, or the other way round
abbrev pub LieApart : ℕ → ℕ → ℕ → ℕ → Type 0
LieApart cell size other other_size = (cell + size ≤ other) ⊎ (other + other_size ≤ cell)

-- Two cells of a cell pool lie apart,
abbrev pub CellsOfAPoolLieApart : Type 0
CellsOfAPoolLieApart =
    (settings : Settings) (s : State) (name : List ℕ) (pool : CellPool) (cell other : ℕ) → IsWellFormed settings s →
    cell_pool_in s.cell_pools name ≡ Some pool → is_in (cells_of pool) cell ≡ true →
    is_in (cells_of pool) other ≡ true → cell ≢ other →
    LieApart cell pool.size other pool.size

-- and so do the cells of two cell pools.
abbrev pub CellsOfTwoPoolsLieApart : Type 0
CellsOfTwoPoolsLieApart =
    (settings : Settings) (s : State) (name name_2 : List ℕ) (pool pool_2 : CellPool) (cell other : ℕ) →
    IsWellFormed settings s →
    name ≢ name_2 → cell_pool_in s.cell_pools name ≡ Some pool → cell_pool_in s.cell_pools name_2 ≡ Some pool_2 →
    is_in (cells_of pool) cell ≡ true → is_in (cells_of pool_2) other ≡ true → LieApart cell pool.size other pool_2.size

-- A cell that is handed out was in use in no cell pool, and is in use then.
abbrev pub HandedOutWasNotInUse : Type 0
HandedOutWasNotInUse =
    (settings : Settings) (names_full : Bool) (s t : State) (name : List ℕ) (g : Get) (cell : ℕ) →
    IsWellFormed settings s →
    step settings names_full s (get name g) ≡ Accepted t (Cell cell) →
    ((other : List ℕ) → IsInUse s.cell_pools other cell → ⊥) × IsInUse t.cell_pools name cell

-- the services by which a cell pool of the name can be gone: its DELETE, the release of a whole subpool, and the end of
-- tasks
abbrev pub CanEnd : Service → List ℕ → Type 0
CanEnd (delete other) name = other ≡ name
CanEnd (whole number) name = Unit {0}
CanEnd (detach task) name = Unit {0}
CanEnd end_task name = Unit {0}
CanEnd _ name = ⊥

-- A cell that is in use stays in use, whatever is asked, until it's freed or its cell pool is gone.
abbrev pub StaysInUse : Type 0
StaysInUse =
    (settings : Settings) (names_full : Bool) (s t : State) (x : Service) (reply : Reply) (name : List ℕ) (cell : ℕ) →
    IsWellFormed settings s → step settings names_full s x ≡ Accepted t reply → IsInUse s.cell_pools name cell →
    IsInUse t.cell_pools name cell ⊎ (x ≡ free name cell) ⊎ (CanEnd x name × (cell_pool_in t.cell_pools name ≡ None))

-- Services that are accepted one after the other, from s to t, each with whether the name of its statement is one too
-- many; after each the state has a property.
abbrev pub Follow : Settings → (State → Type 0) → State → List (Bool × Service) → State → Type 0
Follow settings has s [] t = t ≡ s
Follow settings has s (x ∷ xs) t =
    (next : State) × (reply : Reply) × (step settings x.0 s x.1 ≡ Accepted next reply) × has next
    × Follow settings has next xs t

-- the state is well-formed, and the name has a cell pool
abbrev pub HasPool : Settings → List ℕ → State → Type 0
HasPool settings name s =
    IsWellFormed settings s × ((pool : CellPool) × (cell_pool_in s.cell_pools name ≡ Some pool))

-- After a GET no GET, of any cell pool, hands out the same cell, as long as the cell pool exists and no FREE frees the
-- cell.
abbrev pub NoCellIsHandedOutTwice : Type 0
NoCellIsHandedOutTwice =
    (settings : Settings) (names_full names_full_2 : Bool) (s t u v : State) (name other : List ℕ) (g h : Get)
    (cell : ℕ) (between : List (Bool × Service)) → IsWellFormed settings s → IsWellFormed settings t →
    step settings names_full s (get name g) ≡ Accepted t (Cell cell) →
    Follow settings (HasPool settings name) t between u → All (λ x. x.1 ≢ free name cell) between →
    step settings names_full_2 u (get other h) ≡ Accepted v (Cell cell) → ⊥

-- The cell that was freed last is handed out first, and then the cell pool is as it was before.
abbrev pub LastFreedIsFirst : Type 0
LastFreedIsFirst =
    (settings : Settings) (names_full names_full_2 : Bool) (s t u : State) (name : List ℕ) (cell : ℕ) (g : Get)
    (reply reply_2 : Reply) →
    step settings names_full s (free name cell) ≡ Accepted t reply →
    step settings names_full_2 t (get name g) ≡ Accepted u reply_2 →
    (reply_2 ≡ Cell cell) × (cell_pool_in u.cell_pools name ≡ cell_pool_in s.cell_pools name)
