-- What a state of the storage is on the plain machine.
use Rattle.std.specs.Prelude.{◌≡◌, ℕ, ◌/◌, Bool, true, false, not, ◌&&◌, is_some, Option, Some, None, List, [], ◌∷◌}
use Rattle.std.specs.Prelude.{if◌then◌else◌, map, flat_map}
use Rattle.std.specs.List.{range_with_len}
use Rattle.vsm_model.specs.declared.Subpool.{Subpool}
use Rattle.vsm_model.specs.declared.limits.Settings.{Settings}
use Rattle.vsm_model.specs.Regions.{in_a_region}
use Rattle.vsm_model.specs.State.{State}
use Rattle.vsm_model.specs.WellFormed.{IsWellFormed}
use Rattle.subpool_storage.specs.Subpools.{Subpools, is_there}
use Rattle.storage_changes.specs.PoolTable.{cell_pools_in}
use Rattle.storage_changes.specs.State.{StorageState}

-- the first of these that passes
abbrev pub first_of : {A : Type 0} → (A → Bool) → List A → Option A
first_of passes [] = None
first_of passes (x ∷ xs) = if passes x then Some x else first_of passes xs

-- every possible subpool, by number and then by owner: closed, since there are many
unfoldable pub all_subpools : List Subpool
all_subpools =
    flat_map (λ number. map (λ owner. record { number = number; owner = owner }) (range_with_len 1 64))
    (range_with_len 0 128)

-- the subpool that has the page
abbrev pub subpool_of : Subpools → ℕ → Option Subpool
subpool_of m page = first_of (λ p. m.pages p page) all_subpools

-- a doubleword of a subpool's page is taken if it isn't in its free storage
abbrev pub is_taken : Subpools → Option Subpool → ℕ → Bool
is_taken m None d = false
is_taken m (Some p) d = not (m.free p d)

-- the state of the plain machine
abbrev pub model_of : StorageState → State
model_of m =
    record {
      current = m.tasks.current;
      parents = m.tasks.parents;
      words = m.tasks.words;
      subpools = λ number owner. is_there m.subpools (record { number = number; owner = owner });
      sight = m.subpools.sight;
      pages = subpool_of m.subpools;
      taken = λ d. is_taken m.subpools (subpool_of m.subpools (d / 512)) d;
      bytes = m.bytes;
      cell_pools = cell_pools_in m.subpools.cells;
    }

-- No page belongs to two subpools, the unassigned pages are the rest of the regions, free storage lies in its subpool's
-- pages, and the plain machine's state is well-formed.
pub record IsSound (settings : Settings) (m : StorageState) : Type 0 where
  pub apart : (p q : Subpool) (page : ℕ) → m.subpools.pages p page ≡ true → m.subpools.pages q page ≡ true → p ≡ q
  pub named : (p : Subpool) (page : ℕ) → m.subpools.pages p page ≡ true → subpool_of m.subpools page ≡ Some p
  pub rest :
      (page : ℕ) → m.unassigned page ≡ (in_a_region settings page && not (is_some (subpool_of m.subpools page)))
  pub free : (p : Subpool) (d : ℕ) → m.subpools.free p d ≡ true → m.subpools.pages p (d / 512) ≡ true
  pub well_formed : IsWellFormed settings (model_of m)
