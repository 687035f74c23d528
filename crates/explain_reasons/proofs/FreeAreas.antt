-- The free areas of a subpool, as runs of what is free on the plain machine.
use Rattle.std.proofs.Common.{◌≡◌, ℕ, zero, suc, ◌+◌, ◌/◌, ◌^◌, ◌<◌, ◌≤◌, Bool, true, false, List, [], ◌∷◌, drop, length, Option, Some, None, refl, sym, ap, subst, ◌∙◌, arith}
use Rattle.std.proofs.Props.{props}
use Rattle.std.specs.Prelude.{slice_get}
use mathlib.Core.Logic.{∥∥₁_elim}
use Rattle.run_set.specs.Runs.{Run, AreRunsOf}
use Rattle.run_set.specs.RunSet.{place_index}
use Rattle.service_laws.proofs.Words.{low_page}
use Rattle.subpool_storage.specs.Extents.{free_areas}
use Rattle.subpool_storage.proofs.ExtentLemmas.{free_areas_are_runs}
use Rattle.storage_changes.specs.Meaning.{IsSound}
use Rattle.storage_changes.proofs.MeaningLemmas.{free_storage_is_free}
use Rattle.vsm_model.specs.declared.Subpool.{Subpool}
use Rattle.vsm_model.specs.Areas.{is_free}
use Rattle.storage_core.specs.declared.storage.Storage.{Storage}
use Rattle.storage_core.specs.declared.walks.FreeAreaPlace.{FreeAreaPlace}
use Rattle.storage_core.specs.Meaning.{settings_of, state_in_place, state_of}
use Rattle.storage_core.specs.Walks.{IsFreeAreaPlace}
use Rattle.explain_reasons.proofs.SearchLemmas.{AreLeft, all_left}

-- what is free in the storage in place is free on the plain machine
pub is_free_storage : (s : Storage) (p : Subpool) (d : ℕ) → is_free (state_of s) p d ≡ (state_in_place s).subpools.free p d
is_free_storage s p d =
    ∥∥₁_elim s.held.sound (hlevel props) (λ sound. free_storage_is_free (settings_of s) (state_in_place s) sound p d)

-- nothing is free past the regions
free_high : (s : Storage) (p : Subpool) (d : ℕ) → 2 ^ 29 ≤ d → (state_in_place s).subpools.free p d ≡ false
free_high s p d high = ∥∥₁_elim s.held.sound (hlevel props) (λ sound. go sound ((state_in_place s).subpools.free p d) refl) where
  go : IsSound (settings_of s) (state_in_place s) → (b : Bool) → (state_in_place s).subpools.free p d ≡ b → (state_in_place s).subpools.free p d ≡ false
  go sound true e =
      let in_region = sound.well_formed.pages.in_region (d / 512) p (sound.named p (d / 512) (sound.free p d e)) in
      let low : d / 512 < 425984 = low_page (settings_of s) (d / 512) s.held.valid in_region in
      absurd (omega (arith, low, high))
  go sound false e = e

pub areas_are_runs : (s : Storage) (p : Subpool) → AreRunsOf (free_areas (state_in_place s).subpools p) ((state_in_place s).subpools.free p)
areas_are_runs s p = free_areas_are_runs (state_in_place s).subpools p (free_high s p)

-- a place by its own index
pub own_index : (s : Storage) (p : Subpool) (w : FreeAreaPlace) (i : ℕ) → IsFreeAreaPlace s p w i → IsFreeAreaPlace s p w (place_index w.place)
own_index s p w i h = record { stands = h.stands; areas = h.areas; place = h.place; index = refl }

-- at the first place all areas are left
pub first_left : (s : Storage) (p : Subpool) (w : FreeAreaPlace) (first : ℕ) → IsFreeAreaPlace s p w 0
    → AreLeft (free_areas (state_in_place s).subpools p) first (drop (place_index w.place) (free_areas (state_in_place s).subpools p))
first_left s p w first h =
    let areas = free_areas (state_in_place s).subpools p in
    subst (λ (n : ℕ). AreLeft areas first (drop n areas)) (sym h.index) (all_left areas ((state_in_place s).subpools.free p) first (areas_are_runs s p))

-- what follows from an index on
pub at_index : (xs : List Run) (i j : ℕ) (r : Run) → Some r ≡ slice_get xs i → j ≡ i + 1 → drop i xs ≡ r ∷ drop j xs
at_index [] i j r e next = absurd (let f : ◌≡◌ {A = Option Run} (Some r) None = e in cc)
at_index (x ∷ xs) zero j r e next =
    let same : r ≡ x = (let f : ◌≡◌ {A = Option Run} (Some r) (Some x) = e in cc) in
    let is : 1 ≡ j = omega (arith, next) in
    ap (λ (y : Run). y ∷ xs) (sym same) ∙ ap (λ (n : ℕ). r ∷ drop n (x ∷ xs)) is
at_index (x ∷ xs) (suc i) j r e next =
    let is : suc (i + 1) ≡ j = omega (arith, next) in
    at_index xs i (i + 1) r e refl ∙ ap (λ (n : ℕ). r ∷ drop n (x ∷ xs)) is

pub past_last : (xs : List Run) (i : ℕ) → None ≡ slice_get xs i → drop i xs ≡ []
past_last [] zero e = refl
past_last [] (suc i) e = refl
past_last (x ∷ xs) zero e = absurd (let f : ◌≡◌ {A = Option Run} None (Some x) = e in cc)
past_last (x ∷ xs) (suc i) e = past_last xs i e

pub in_range : (xs : List Run) (i : ℕ) (r : Run) → Some r ≡ slice_get xs i → i < length xs
in_range [] zero r e = absurd (let f : ◌≡◌ {A = Option Run} (Some r) None = e in cc)
in_range [] (suc i) r e = absurd (let f : ◌≡◌ {A = Option Run} (Some r) None = e in cc)
in_range (x ∷ xs) zero r e = omega arith
in_range (x ∷ xs) (suc i) r e = (let k = in_range xs i r e in omega (arith, k))
