-- What a caller can rely on when a service on a cell pool is accepted, by the state before and after.
-- Assembler Services Reference, CPOOL; Assembler Services Guide, "Virtual storage management", "Using the CPOOL macro".
use Rattle.std.specs.Prelude.{◌≡◌, ◌≢◌, ◌⊎◌, ℕ, ◌*◌, ◌/◌, ◌<◌, ◌≤◌, Bool, true, false, not, ◌&&◌, Option, Some}
use Rattle.std.specs.Prelude.{None, List, [], ◌∷◌, ◌++◌, length, Contains}
use Rattle.std.specs.List.{list_any}
use Rattle.vsm_model.specs.declared.Subpool.{Subpool}
use Rattle.vsm_model.specs.declared.limits.Settings.{Settings}
use Rattle.vsm_model.specs.declared.replies.Reply.{Reply}
use Rattle.vsm_model.specs.declared.replies.Reply.TheVariants.{Obtained, Returned, Cell}
use Rattle.vsm_model.specs.declared.services.Build.{Build}
use Rattle.vsm_model.specs.declared.services.Get.{Get}
use Rattle.vsm_model.specs.Search.{is_in}
use Rattle.vsm_model.specs.Regions.{Region, doublewords, regions_for, side}
use Rattle.vsm_model.specs.CellPools.{CellPool, CellExtent, cell_pool_in, cells_from, cells_of}
use Rattle.vsm_model.specs.State.{State}
use Rattle.vsm_model.specs.Services.{build, get, free, delete}
use Rattle.vsm_model.specs.Cells.{are_cells, secondary_count, without_extents}
use Rattle.vsm_model.specs.Standing.{Accepted}
use Rattle.vsm_model.specs.Step.{step}
use Rattle.vsm_model.specs.WellFormed.{IsWellFormed}
use Rattle.service_laws.specs.Extents.{lies_in, AreaIsTaken}
use Rattle.service_laws.specs.StorageLowestAddress.{IsLowestAddress}
use Rattle.service_laws.specs.CellRegisters.{AddressIsSet}
use Rattle.service_laws.specs.StorageRegisters.{ReturnCodeIsSet, ReturnCodeIsAll}

-- From s to t, cell pools of other names stay as they are.
abbrev pub OthersStay : State → State → List ℕ → Type 0
OthersStay s t name =
    (other : List ℕ) → other ≢ name → cell_pool_in t.cell_pools other ≡ cell_pool_in s.cell_pools other

-- The name has this cell pool, and the current task sees its subpool.
pub record IsSeen (s : State) (name : List ℕ) (pool : CellPool) : Type 0 where
  pub found : cell_pool_in s.cell_pools name ≡ Some pool
  pub seen : s.sight s.current pool.subpool.number ≡ Some pool.subpool.owner

-- From s to t, a cell that was in use is free, and is the first to be handed out again.
pub record IsFreed (s t : State) (name : List ℕ) (cell : ℕ) : Type 0 where
  pub pool : CellPool
  pub before : IsSeen s name pool
  pub was_cell : is_in (cells_of pool) cell ≡ true
  pub was_in_use : is_in pool.free cell ≡ false
  -- it is before the other free cells, and nothing else of the cell pool changes
  pub after : cell_pool_in t.cell_pools name ≡ Some (record pool { free = cell ∷ pool.free })
  pub others : OthersStay s t name
  -- neither storage, nor subpools, nor tasks change, except for the return code
  pub same : t ≡ record s { words = t.words; cell_pools = t.cell_pools }
  pub registers : ReturnCodeIsSet s t 0

abbrev pub FreeMakesACellFree : Type 0
FreeMakesACellFree =
    (settings : Settings) (names_full : Bool) (s t : State) (name : List ℕ) (cell : ℕ) (reply : Reply) →
    step settings names_full s (free name cell) ≡ Accepted t reply → IsFreed s t name cell × (reply ≡ Returned 0)

-- The first free cell is handed out; storage stays as it is.
pub record IsFirstFree (s t : State) (name : List ℕ) (pool : CellPool) (cell : ℕ) : Type 0 where
  pub rest : List ℕ
  pub was_first : pool.free ≡ cell ∷ rest
  pub after : cell_pool_in t.cell_pools name ≡ Some (record pool { free = rest })
  pub same : t ≡ record s { words = t.words; cell_pools = t.cell_pools }

-- No cell was free: the cell is the first of another extent of the secondary number of cells, in storage that was free
-- on the cell pool's side of the line, at the lowest address; the cells after it are free, in ascending order.
pub record IsFirstOfFurther (settings : Settings) (s t : State) (name : List ℕ) (pool : CellPool) (cell : ℕ) : Type 0
  where
    pub none_free : pool.free ≡ []
    pub region : Region
    pub on_its_side : Contains (regions_for settings pool.location) region
    pub area : AreaIsTaken region s t pool.subpool cell (doublewords (pool.secondary * pool.size))
    pub lowest :
        IsLowestAddress (regions_for settings pool.location) s pool.subpool
        (doublewords (pool.secondary * pool.size)) 1 cell
    pub rest : List ℕ
    pub cells : cells_from pool.size cell pool.secondary ≡ cell ∷ rest
    pub after :
        cell_pool_in t.cell_pools name
        ≡ Some (record pool {
          extents = pool.extents ++ record { address = cell; cells = pool.secondary } ∷ [];
          free = rest;
        })
    pub same :
        t ≡ record s { words = t.words; pages = t.pages; taken = t.taken; bytes = t.bytes; cell_pools = t.cell_pools }

-- From s to t, a cell was handed out.
pub record IsHandedOut (settings : Settings) (s t : State) (name : List ℕ) (g : Get) (cell : ℕ) : Type 0 where
  pub pool : CellPool
  pub before : IsSeen s name pool
  pub source : IsFirstFree s t name pool cell ⊎ ((g.conditional ≡ false) × IsFirstOfFurther settings s t name pool cell)
  pub others : OthersStay s t name
  pub registers : AddressIsSet s t g.register cell

-- the current task sees the subpool of the cell pool, which has no free cell
abbrev pub HasNoFreeCell : State → List ℕ → Type 0
HasNoFreeCell s name = (pool : CellPool) × IsSeen s name pool × (pool.free ≡ [])

-- The conditional form hands out no cell of another extent, and returns 4 if none is free.
abbrev pub GetHandsOutACell : Type 0
GetHandsOutACell =
    (settings : Settings) (names_full : Bool) (s t : State) (name : List ℕ) (g : Get) (reply : Reply) →
    IsWellFormed settings s →
    step settings names_full s (get name g) ≡ Accepted t reply →
    ((cell : ℕ) × (reply ≡ Cell cell) × IsHandedOut settings s t name g cell × (names_full ≡ false))
    ⊎ ((g.conditional ≡ true) × (reply ≡ Returned 4) × HasNoFreeCell s name × ReturnCodeIsAll s t 4)

-- From s to t, the current task sees this owner's subpool at the number: the one that it saw, or a new one of its own
-- if it saw none. All other subpools are as they were, and so is what each task sees at each other number. Assembler
-- Services Guide, "Virtual storage management", "Subpool handling".
pub record SubpoolIsThere (s t : State) (number owner : ℕ) : Type 0 where
  pub seen : t.sight s.current number ≡ Some owner
  pub there : t.subpools number owner ≡ true
  pub one_that_it_saw : (o : ℕ) → s.sight s.current number ≡ Some o → owner ≡ o
  pub else_its_own : s.sight s.current number ≡ None → owner ≡ s.current
  pub other_sight : (task n : ℕ) → (task ≢ s.current) ⊎ (n ≢ number) → t.sight task n ≡ s.sight task n
  pub other_subpools : (n o : ℕ) → (n ≢ number) ⊎ (o ≢ owner) → t.subpools n o ≡ s.subpools n o

-- From s to t, a cell pool was built whose first extent is at the address.
pub record IsBuilt (settings : Settings) (s t : State) (name : List ℕ) (header : Option (List ℕ)) (b : Build)
    (address : ℕ) : Type 0 where
  -- the numbers are within their bounds, the name had no cell pool, and there were fewer than 256
  pub private : b.number ≤ 127
  pub valid : (are_cells b.size b.primary ≡ true) × (are_cells b.size (secondary_count b) ≡ true)
  pub was_new : cell_pool_in s.cell_pools name ≡ None
  pub room : length s.cell_pools < 256
  -- the extent is in free storage of the subpool that the task then sees at the number, or in unassigned pages, at the
  -- lowest address on the side of the line that is asked for
  pub owner : ℕ
  pub subpool : SubpoolIsThere s t b.number owner
  pub region : Region
  pub on_its_side : Contains (regions_for settings (side settings b.location)) region
  pub area :
      AreaIsTaken region s t (record { number = b.number; owner = owner }) address (doublewords (b.primary * b.size))
  pub lowest :
      IsLowestAddress (regions_for settings (side settings b.location)) s (record { number = b.number; owner = owner })
      (doublewords (b.primary * b.size)) 1 address
  -- the cell pool has this one extent, and all its cells are free, in ascending order
  pub after :
      cell_pool_in t.cell_pools name
      ≡ Some (record {
        subpool = record { number = b.number; owner = owner };
        size = b.size;
        primary = b.primary;
        secondary = secondary_count b;
        location = side settings b.location;
        header = header;
        extents = record { address = address; cells = b.primary } ∷ [];
        free = cells_from b.size address b.primary;
      })
  pub others : OthersStay s t name
  -- the current task and the tree of tasks stay, and the return code is 0
  pub current : t.current ≡ s.current
  pub same_parents : t.parents ≡ s.parents
  pub registers : ReturnCodeIsSet s t 0

abbrev pub BuildMakesACellPool : Type 0
BuildMakesACellPool =
    (settings : Settings) (names_full : Bool) (s t : State) (name : List ℕ) (header : Option (List ℕ)) (b : Build)
    (reply : Reply) →
    IsWellFormed settings s → step settings names_full s (build name header b) ≡ Accepted t reply →
    (address : ℕ) × (reply ≡ Obtained address (8 * doublewords (b.primary * b.size)))
    × IsBuilt settings s t name header b address

-- From s to t, the cell pool of the name is gone, and its extents were released, with cells in use.
pub record IsDeleted (s t : State) (name : List ℕ) : Type 0 where
  pub pool : CellPool
  pub before : IsSeen s name pool
  pub gone : cell_pool_in t.cell_pools name ≡ None
  pub others : OthersStay s t name
  -- the doublewords of the extents were taken in pages of the subpool; they aren't taken now, and all others are as
  -- they were
  pub were_taken : (d : ℕ) → list_any (lies_in pool d) pool.extents ≡ true → s.taken d ≡ true
  pub in_subpool : (d : ℕ) → list_any (lies_in pool d) pool.extents ≡ true → s.pages (d / 512) ≡ Some pool.subpool
  pub taken : (d : ℕ) → t.taken d ≡ (not (list_any (lies_in pool d) pool.extents) && s.taken d)
  -- a page of the subpool that is left without a taken doubleword is unassigned
  pub idle_leaves :
      (k : ℕ) → s.pages k ≡ Some pool.subpool → ((d : ℕ) → d / 512 ≡ k → t.taken d ≡ false) → t.pages k ≡ None
  -- a page in which a doubleword is taken stays with its subpool, so does each page of another one, and no page is
  -- assigned
  pub stays : (k : ℕ) (p : Subpool) (d : ℕ) → s.pages k ≡ Some p → d / 512 ≡ k → t.taken d ≡ true → t.pages k ≡ Some p
  pub others_stay : (k : ℕ) (p : Subpool) → s.pages k ≡ Some p → p ≢ pool.subpool → t.pages k ≡ Some p
  pub none_new : (k : ℕ) (p : Subpool) → t.pages k ≡ Some p → s.pages k ≡ Some p
  -- the bytes of a page that leaves are gone, and every other page keeps its bytes
  pub no_bytes : (a : ℕ) (p : Subpool) → s.pages (a / 4096) ≡ Some p → t.pages (a / 4096) ≡ None → t.bytes a ≡ None
  pub same_bytes : (a : ℕ) → t.pages (a / 4096) ≡ s.pages (a / 4096) → t.bytes a ≡ s.bytes a
  -- the tasks, the subpools and which tasks see them stay, and the return code is 0
  pub same :
      t ≡ record s { words = t.words; pages = t.pages; taken = t.taken; bytes = t.bytes; cell_pools = t.cell_pools }
  pub registers : ReturnCodeIsSet s t 0

abbrev pub DeleteGivesItsExtentsBack : Type 0
DeleteGivesItsExtentsBack =
    (settings : Settings) (names_full : Bool) (s t : State) (name : List ℕ) (reply : Reply) → IsWellFormed settings s →
    step settings names_full s (delete name) ≡ Accepted t reply → IsDeleted s t name × (reply ≡ Returned 0)

-- Two lists of extents with the same doublewords are released alike: the order in which a DELETE goes through them has
-- no meaning.
abbrev pub OrderIsWithoutMeaning : Type 0
OrderIsWithoutMeaning =
    (settings : Settings) (s : State) (pool : CellPool) (extents other : List CellExtent) → IsWellFormed settings s →
    ((d : ℕ) → list_any (lies_in pool d) extents ≡ list_any (lies_in pool d) other) →
    without_extents s pool extents ≡ without_extents s pool other
