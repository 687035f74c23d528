-- The lists of a storage in place are those of its state.
use Rattle.std.proofs.Common.{◌≡◌, ℕ, zero, suc, ◌+◌, List, [], ◌∷◌, map, flat_map, refl, sym, ap, ◌∙◌}
use Rattle.std.specs.List.{filter_map, range_with_len}
use Rattle.std.proofs.Props.{props}
use mathlib.Core.Logic.{∥∥₁_elim}
use Rattle.run_set.specs.Runs.{Run}
use Rattle.subpool_set.specs.Pools.{tasks, numbers}
use Rattle.subpool_set.proofs.OrderLemmas.{tasks_are, numbers_are, flat_same}
use Rattle.subpool_storage.specs.Extents as in_place
use Rattle.subpool_storage.specs.Order.{subpools_in_order}
use Rattle.storage_changes.specs.MapLists.{ExtentsAreShown, FreeAreasAreShown, UnassignedAreShown, pair_of, unassigned_runs}
use Rattle.storage_core.specs.Meaning.{state_in_place, state_of, settings_of}
use Rattle.storage_core.specs.declared.storage.Storage.{Storage}
use Rattle.vsm_model.specs.CellPools.{cells_from}
use Rattle.vsm_model.specs.declared.Subpool.{Subpool}
use Rattle.explain_report.specs.Figures.{all_subpools, as_run, extents_of, free_areas_of, subpool_at, unassigned}

-- runs are those of their pairs
runs_back : (rs : List Run) → map as_run (map pair_of rs) ≡ rs
runs_back [] = refl
runs_back (r ∷ rs) = ap (λ (qs : List Run). r ∷ qs) (runs_back rs)

-- numbers a one apart are those of a range
cells_are : (a n : ℕ) → cells_from 1 a n ≡ range_with_len a n
cells_are a zero = refl
cells_are a (suc n) = ap (λ (z : List ℕ). a ∷ z) (cells_are (a + 1) n)

module _ (s : Storage) where
  pub extents_shown : ExtentsAreShown → (p : Subpool) → in_place.extents (state_in_place s).subpools p ≡ extents_of (settings_of s) (state_of s) p
  extents_shown law p =
      sym (runs_back (in_place.extents (state_in_place s).subpools p))
      ∙ ap (map as_run) (sym (∥∥₁_elim s.held.sound (hlevel props) (λ k. law (settings_of s) (state_in_place s) p s.held.valid k)))

  pub areas_shown : FreeAreasAreShown → (p : Subpool) → in_place.free_areas (state_in_place s).subpools p ≡ free_areas_of (settings_of s) (state_of s) p
  areas_shown law p =
      sym (runs_back (in_place.free_areas (state_in_place s).subpools p))
      ∙ ap (map as_run) (sym (∥∥₁_elim s.held.sound (hlevel props) (λ k. law (settings_of s) (state_in_place s) p s.held.valid k)))

  pub unassigned_shown : UnassignedAreShown → unassigned_runs (state_in_place s) ≡ unassigned (settings_of s) (state_of s)
  unassigned_shown law =
      sym (runs_back (unassigned_runs (state_in_place s)))
      ∙ ap (map as_run) (sym (∥∥₁_elim s.held.sound (hlevel props) (λ k. law (settings_of s) (state_in_place s) s.held.valid k)))

  -- the subpools, in their order
  in_order : (n k : ℕ) → n ≡ 128 → k ≡ 64
      → subpools_in_order (state_in_place s).subpools ≡ flat_map (λ j. filter_map (subpool_at (state_of s).subpools j) (cells_from 1 1 k)) (cells_from 1 0 n)
  in_order n k e h =
      ap (flat_map (λ j. filter_map (subpool_at (state_of s).subpools j) tasks)) (numbers_are n e ∙ sym (cells_are 0 n))
      ∙ flat_same (λ j. filter_map (subpool_at (state_of s).subpools j) tasks) (λ j. filter_map (subpool_at (state_of s).subpools j) (cells_from 1 1 k))
      (λ j. ap (filter_map (subpool_at (state_of s).subpools j)) (tasks_are k h ∙ sym (cells_are 1 k))) (cells_from 1 0 n)

  pub subpools_shown : subpools_in_order (state_in_place s).subpools ≡ all_subpools (state_of s).subpools
  unfolding all_subpools
  subpools_shown = in_order 128 64 refl refl
