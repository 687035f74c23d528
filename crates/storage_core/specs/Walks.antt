-- Places among the subpools, their sharers, and the extents and the free areas of a subpool.
-- Assembler Services Guide, "Virtual storage management", "Subpool handling".
use Rattle.std.specs.Prelude.{◌≡◌, ℕ, List}
use Rattle.run_set.specs.RunSet.{place_index}
use Rattle.descriptor_queue.specs.Extents as queue
use Rattle.free_queue.specs.FreeQueue as free_queue
use Rattle.vsm_model.specs.declared.Subpool.{Subpool}
use Rattle.subpool_set.specs.declared.places.SubpoolPlace.{SubpoolPlace}
use Rattle.subpool_set.specs.declared.sharers.SharerPlace.{SharerPlace}
use Rattle.subpool_storage.specs.SubpoolStorage as subpools
use Rattle.subpool_storage.specs.Extents.{extents, free_areas}
use Rattle.storage_core.specs.declared.storage.Storage.{Storage}
use Rattle.storage_core.specs.declared.walks.ExtentPlace.{ExtentPlace}
use Rattle.storage_core.specs.declared.walks.FreeAreaPlace.{FreeAreaPlace}
use Rattle.storage_core.specs.Meaning.{state_in_place}

-- the place is before, between or after the subpools, and these are after it
abbrev pub IsSubpoolPlace : Storage → SubpoolPlace → Type 0
IsSubpoolPlace s place = subpools.IsSubpoolPlace s.parts.elements s.parts.subpools place

abbrev pub subpools_left : Storage → SubpoolPlace → List Subpool
subpools_left s place = subpools.subpools_left s.parts.elements s.parts.subpools place

-- the place is after a subpool that was read, and this is that subpool
abbrev pub IsBehindSubpool : Storage → SubpoolPlace → Type 0
IsBehindSubpool s place = subpools.IsBehindSubpool s.parts.elements s.parts.subpools place

abbrev pub subpool_before : Storage → SubpoolPlace → Subpool
subpool_before s place = subpools.subpool_before s.parts.elements place

-- the tasks after the place that see the subpool without owning it
abbrev pub sharers_left : Storage → SharerPlace → Subpool → List ℕ
sharers_left s place p = subpools.sharers_left s.parts.elements s.parts.subpools place p

-- the place is before the extent of this index, from 0 on, of the subpool
pub record IsExtentPlace (s : Storage) (p : Subpool) (w : ExtentPlace) (i : ℕ) : Type 0 where
  pub stands : queue.IsExtents s.parts.elements w.extents
  pub extents : queue.extents s.parts.elements w.extents ≡ extents (state_in_place s).subpools p
  pub place : queue.IsPlace s.parts.elements w.extents w.place
  pub index : place_index w.place ≡ i

-- the place is before the free area of this index of the subpool
pub record IsFreeAreaPlace (s : Storage) (p : Subpool) (w : FreeAreaPlace) (i : ℕ) : Type 0 where
  pub stands : free_queue.IsFreeQueue s.parts.elements w.areas
  pub areas : free_queue.areas s.parts.elements w.areas ≡ free_areas (state_in_place s).subpools p
  pub place : free_queue.IsPlace s.parts.elements w.areas w.place
  pub index : place_index w.place ≡ i
