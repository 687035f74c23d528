-- Extents and free areas in a walk: where one ends, and that none follows the last.
use Rattle.std.proofs.Common.{◌≡◌, ℕ, zero, suc, ◌+◌, ◌^◌, ◌<◌, ◌≤◌, List, [], ◌∷◌, Some, None, refl, sym, ap, ◌∙◌, arith}
use Rattle.std.proofs.Props.{props}
use Rattle.std.specs.Prelude.{slice_get}
use mathlib.Core.Logic.{∥∥₁_elim}
use Rattle.run_set.specs.Runs.{Run}
use Rattle.run_set.specs.RunSet.{place_index}
use Rattle.descriptor_queue.specs.Extents as queue
use Rattle.descriptor_queue.specs.Pages.{page_runs}
use Rattle.descriptor_queue.specs.Laws.{PagesStand}
use Rattle.free_queue.specs.FreeQueue as free_queue
use Rattle.vsm_model.specs.declared.Subpool.{Subpool}
use Rattle.subpool_storage.specs.Extents.{extents, free_areas}
use Rattle.storage_changes.specs.MapLists.{ExtentsEndInRegions, FreeAreasEndInRegions, UnassignedAreOne, unassigned_runs}
use Rattle.storage_core.specs.declared.storage.Storage.{Storage}
use Rattle.storage_core.specs.declared.walks.ExtentPlace.{ExtentPlace}
use Rattle.storage_core.specs.declared.walks.FreeAreaPlace.{FreeAreaPlace}
use Rattle.storage_core.specs.Meaning.{state_in_place, settings_of}
use Rattle.storage_core.specs.Walks.{IsExtentPlace, IsFreeAreaPlace}

-- after a position without an item there is none
pub none_behind : {A : Type 0} (xs : List A) (j i : ℕ) → slice_get xs j ≡ None → j ≤ i → slice_get xs i ≡ None
none_behind [] j i none behind = refl
none_behind (x ∷ xs) zero i none behind = cc
none_behind (x ∷ xs) (suc j) zero none behind = absurd (omega (arith, behind))
none_behind (x ∷ xs) (suc j) (suc i) none behind = none_behind xs j i none (omega (arith, behind))

module _ (law : ExtentsEndInRegions) (s : Storage) where
  extent_end : (p : Subpool) (i : ℕ) (r : Run) → slice_get (extents (state_in_place s).subpools p) i ≡ Some r
      → r.start + r.len < 2 ^ 20
  extent_end p i r e = ∥∥₁_elim s.held.sound (hlevel props)
      (λ sound. law (settings_of s) (state_in_place s) p i r s.held.valid sound e)

  -- the extent after a place ends before the last page
  pub extent_ends : (w : ExtentPlace) → (p : Subpool) × (i : ℕ) × IsExtentPlace s p w i → (r : Run)
      → Some r ≡ slice_get (queue.extents s.parts.elements w.extents) (place_index w.place) → r.start + r.len < 2 ^ 20
  extent_ends w (p, i, place) r e =
      extent_end p i r
      (ap (λ l. slice_get l i) (sym place.extents)
      ∙ ap (slice_get (queue.extents s.parts.elements w.extents)) (sym place.index) ∙ sym e)

module _ (law : FreeAreasEndInRegions) (s : Storage) where
  area_end : (p : Subpool) (i : ℕ) (r : Run) → slice_get (free_areas (state_in_place s).subpools p) i ≡ Some r
      → r.start + r.len < 2 ^ 29
  area_end p i r e = ∥∥₁_elim s.held.sound (hlevel props)
      (λ sound. law (settings_of s) (state_in_place s) p i r s.held.valid sound e)

  -- the free area after a place ends before the last doubleword
  pub area_ends : (w : FreeAreaPlace) → (p : Subpool) × (i : ℕ) × IsFreeAreaPlace s p w i → (r : Run)
      → Some r ≡ slice_get (free_queue.areas s.parts.elements w.areas) (place_index w.place) → r.start + r.len < 2 ^ 29
  area_ends w (p, i, place) r e =
      area_end p i r
      (ap (λ l. slice_get l i) (sym place.areas)
      ∙ ap (slice_get (free_queue.areas s.parts.elements w.areas)) (sym place.index) ∙ sym e)

-- the runs of unassigned pages are those of the state in place
pub unassigned_are : UnassignedAreOne → PagesStand → (s : Storage) → page_runs s.parts.elements s.parts.unassigned ≡ unassigned_runs (state_in_place s)
unassigned_are one stand s =
    one (state_in_place s) (page_runs s.parts.elements s.parts.unassigned) (stand s.parts.elements s.parts.unassigned s.held.stands.unassigned).0
