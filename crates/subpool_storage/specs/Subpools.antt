-- Subpools with their pages, their free storage and their cell pools, as functions, and what one call does to them.
-- Assembler Services Guide, "Virtual storage management", "Subpool handling"; Assembler Services Reference, CPOOL.
use Rattle.std.specs.Prelude.{◌≡◌, ◌≢◌, ◌⊎◌, ℕ, Bool, false, ◌&&◌, ◌==◌, if◌then◌else◌, Option, Some, None}
use Rattle.std.specs.Prelude.{option_map, List, [], ◌∷◌}
use Rattle.run_set.specs.Runs.{Run, inside}
use Rattle.vsm_model.specs.declared.Subpool.{Subpool}
use Rattle.vsm_model.specs.Passing.{sight_after_gift}
use Rattle.vsm_model.specs.Search.{holds}
use Rattle.vsm_model.specs.Subpools.{same_subpool}
use Rattle.cell_pool.specs.declared.settings.CellSettings.{CellSettings}
use Rattle.cell_pool.specs.Pools.{Pool, cells_from, at_id, handed_on, exchanged, lies_in}

-- A set is its test: equal subpools are equal at every place.
pub record Subpools : Type 0 where
  -- the owner of the subpool that a task sees at a number
  pub sight : ℕ → ℕ → Option ℕ
  -- whether a page is the subpool's
  pub pages : Subpool → ℕ → Bool
  -- whether a doubleword is in the subpool's free storage
  pub free : Subpool → ℕ → Bool
  -- the cell pool of an id, which names the subpool that it lies in
  pub cells : ℕ → Option Pool

-- no subpool, nothing seen, and no cell pool
abbrev pub no_subpools : Subpools
no_subpools =
    record { sight = λ task number. None; pages = λ p page. false; free = λ p d. false; cells = λ id. None }

-- the subpool exists: its owner sees it
abbrev pub is_there : Subpools → Subpool → Bool
is_there m p = holds (λ owner. owner == p.owner) (m.sight p.owner p.number)

-- The pages of a run are the subpool's from now on, or they aren't.
abbrev pub with_pages : Subpools → Subpool → Run → Bool → Subpools
with_pages m p run present =
    record m { pages = λ q page. if same_subpool q p && inside page run then present else m.pages q page }

-- The doublewords of an area are in the subpool's free storage from now on, or they aren't.
abbrev pub with_free : Subpools → Subpool → Run → Bool → Subpools
with_free m p area free =
    record m { free = λ q d. if same_subpool q p && inside d area then free else m.free q d }

-- The owner sees its subpool from now on, or it sees none of that number.
abbrev pub with_own : Subpools → Subpool → Bool → Subpools
with_own m p present = record m {
  sight = λ task number. if (task == p.owner) && (number == p.number) then (if present then Some p.owner else None)
      else m.sight task number;
}

-- The subpool has the pages, the free storage and the cell pools that it has among others.
abbrev pub with_storage_of : Subpools → Subpools → Subpool → Subpools
with_storage_of m others p =
    record m {
      pages = λ q page. if same_subpool q p then others.pages q page else m.pages q page;
      free = λ q d. if same_subpool q p then others.free q d else m.free q d;
      cells = λ id. exchanged p (m.cells id) (others.cells id);
    }

-- a cell pool has the id, among these subpools or the others
abbrev pub HasPool : Subpools → Subpools → ℕ → Pool → Type 0
HasPool m others id x = (m.cells id ≡ Some x) ⊎ (others.cells id ≡ Some x)

-- Cell pools of both that have one name lie all in the subpool, or all outside it: no name appears twice once the
-- subpool's storage is exchanged.
abbrev pub CanExchange : Subpools → Subpools → Subpool → Type 0
CanExchange m others p =
    (i j : ℕ) (x y : Pool) → HasPool m others i x → HasPool m others j y → x.name ≡ y.name
    → lies_in p x ≡ lies_in p y

-- No other cell pool of either has the name.
abbrev pub IsSingle : Subpools → Subpools → ℕ → List ℕ → Type 0
IsSingle m others id name =
    (i : ℕ) (q : Pool) → HasPool m others i q → q.name ≡ name → i ≡ id

-- none of these has the name
abbrev pub IsUnnamed : Subpools → List ℕ → Type 0
IsUnnamed m name = (id : ℕ) (q : Pool) → m.cells id ≡ Some q → q.name ≢ name

-- The cell pool of the id is what others have under it.
abbrev pub with_pool_of : Subpools → Subpools → ℕ → Subpools
with_pool_of m others id = record m { cells = λ i. if i == id then others.cells i else m.cells i }

-- The change is made to the cell pool of the id.
abbrev pub with_changed : Subpools → ℕ → (Pool → Pool) → Subpools
with_changed m id change = record m { cells = λ i. option_map (at_id id change) (m.cells i) }

-- a cell pool of one extent, whose cells are all free, in ascending order
abbrev pub built_pool : ℕ → List ℕ → CellSettings → Option (List ℕ) → ℕ → ℕ → Pool
built_pool id name settings header start count =
    record {
      id = id;
      name = name;
      settings = settings;
      header = header;
      extents = record { start = start; count = count } ∷ [];
      cells = cells_from settings.size start count;
    }

-- The cell pool is present, under its own id.
abbrev pub with_new_pool : Subpools → Pool → Subpools
with_new_pool m p = record m { cells = λ id. if id == p.id then Some p else m.cells id }

-- A task sees the subpool from now on, or it sees none of that number.
abbrev pub with_sharer : Subpools → Subpool → ℕ → Bool → Subpools
with_sharer m p sharer present = record m {
  sight = λ task number. if (task == sharer) && (number == p.number) then (if present then Some p.owner else None)
      else m.sight task number;
}

-- the subpool of the same number that another task owns
abbrev pub owned_by : Subpool → ℕ → Subpool
owned_by p owner = record { number = p.number; owner = owner }

-- The subpool is another task's from now on, with its pages, its free storage and its cell pools: a task that saw it
-- sees it as that task's, and its owner until now sees none of that number.
abbrev pub with_passed : Subpools → Subpool → ℕ → Subpools
with_passed m p to =
    record {
      sight = sight_after_gift m.sight p.number p.owner to;
      pages = λ q page. if same_subpool q (owned_by p to) then m.pages p page
          else if same_subpool q p then false else m.pages q page;
      free = λ q d. if same_subpool q (owned_by p to) then m.free p d
          else if same_subpool q p then false else m.free q d;
      cells = λ id. option_map (handed_on p to) (m.cells id);
    }
