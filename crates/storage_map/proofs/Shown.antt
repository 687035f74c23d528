-- What the lines of a map are in parts.
use Rattle.std.proofs.Common.{◌≡◌, ℕ, suc, ◌+◌, ◌-◌, ◌*◌, ◌<◌, ◌≤◌, Bool, true, if◌then◌else◌, Option, Some, None, is_some, unwrap_or, List, [], ◌∷◌, ◌++◌, flat_map, codes, ap, ◌∙◌, arith}
use Rattle.std.proofs.Props.{props}
use Rattle.std.proofs.lemmas.List.Folds.{flat_map-map}
use mathlib.Core.Logic.{∥∥₁_elim}
use Rattle.storage_changes.specs.MapLists.{pair_of, ExtentsAreShown, FreeAreasAreShown, SubpoolsAreShown}
use Rattle.storage_changes.specs.State.{StorageState}
use Rattle.storage_changes.specs.Meaning.{model_of, IsSound}
use Rattle.subpool_storage.specs.Extents as in_place
use Rattle.subpool_storage.specs.Order.{subpools_in_order}
use Rattle.subpool_storage.specs.Subpools.{is_there}
use Rattle.vsm_model.specs.Areas as plain
use Rattle.vsm_model.specs.CellPools.{CellPool, cells_from}
use Rattle.vsm_model.specs.declared.Subpool.{Subpool}
use Rattle.vsm_model.specs.declared.limits.Settings.{Settings}
use Rattle.vsm_model.specs.Regions.{settings_valid}
use Rattle.vsm_model.specs.State.{State}
use Rattle.vsm_model.specs.Map.{area_line, ascending_regions, bytes_line, cell_pool_lines, field, line, numbers, pages_line, register_line, storage_map, subpool_lines, task_lines}
use Rattle.storage_map.specs.Lines.{current_text, extent_line, free_line, subpool_line, task_line}

-- the numbers from one on begin with that one
pub numbers_next : (k end : ℕ) → k < end → numbers k end ≡ k ∷ numbers (k + 1) end
numbers_next k end h = (let e : end - k ≡ suc (end - (k + 1)) = omega (arith, h) in ap (cells_from 1 k) e)

pub numbers_end : (k end : ℕ) → end ≤ k → numbers k end ≡ []
numbers_end k end h = (let e : end - k ≡ 0 = omega (arith, h) in ap (cells_from 1 k) e)

-- the lines of a task that exists, and those of one that doesn't
pub task_there : (s : State) (task parent : ℕ) → s.parents task ≡ Some parent →
    task_lines s task ≡ task_line s task parent ++ register_line s task (codes "  R0") 0 ++ register_line s task (codes "  R8") 8
task_there s task parent e =
    ap (λ (x : Option ℕ). if is_some x
    then line (field (codes " TASK") task ++ field (codes " PARENT") (unwrap_or x 0) ++ current_text s task)
    ++ register_line s task (codes "  R0") 0 ++ register_line s task (codes "  R8") 8 else []) e

pub task_absent : (s : State) (task : ℕ) → s.parents task ≡ None → task_lines s task ≡ []
task_absent s task e =
    ap (λ (x : Option ℕ). if is_some x
    then line (field (codes " TASK") task ++ field (codes " PARENT") (unwrap_or x 0) ++ current_text s task)
    ++ register_line s task (codes "  R0") 0 ++ register_line s task (codes "  R8") 8 else []) e

module _ (settings : Settings) (m : StorageState) (p : Subpool) (valid : settings_valid settings ≡ true) (sound : ∥ IsSound settings m ∥₁) where
  abbrev shown_extents : List ℕ
  shown_extents = flat_map (λ run. area_line (codes "  EXTENT") (4096 * run.0) (4096 * run.1)) (flat_map (plain.extents (model_of m) p) (ascending_regions settings))

  abbrev shown_areas : List ℕ
  shown_areas = flat_map (λ run. area_line (codes "  FREE") (8 * run.0) (8 * run.1)) (flat_map (plain.free_areas (model_of m) p) (ascending_regions settings))

  extents_are : ExtentsAreShown → shown_extents ≡ flat_map extent_line (in_place.extents m.subpools p)
  extents_are law = ap (flat_map (λ (run : ℕ × ℕ). area_line (codes "  EXTENT") (4096 * run.0) (4096 * run.1)))
      (∥∥₁_elim sound (hlevel props) (λ h. law settings m p valid h))
      ∙ flat_map-map (λ (run : ℕ × ℕ). area_line (codes "  EXTENT") (4096 * run.0) (4096 * run.1)) pair_of (in_place.extents m.subpools p)

  areas_are : FreeAreasAreShown → shown_areas ≡ flat_map free_line (in_place.free_areas m.subpools p)
  areas_are law = ap (flat_map (λ (run : ℕ × ℕ). area_line (codes "  FREE") (8 * run.0) (8 * run.1)))
      (∥∥₁_elim sound (hlevel props) (λ h. law settings m p valid h))
      ∙ flat_map-map (λ (run : ℕ × ℕ). area_line (codes "  FREE") (8 * run.0) (8 * run.1)) pair_of (in_place.free_areas m.subpools p)

  -- the lines of a subpool that exists
  pub subpool_there : ExtentsAreShown → FreeAreasAreShown → is_there m.subpools p ≡ true →
      subpool_lines settings (model_of m) p.number p.owner
      ≡ subpool_line (model_of m) p ++ flat_map extent_line (in_place.extents m.subpools p) ++ flat_map free_line (in_place.free_areas m.subpools p)
  subpool_there extents areas there =
      ap (λ (b : Bool). if b then subpool_line (model_of m) p ++ shown_extents ++ shown_areas else []) there
      ∙ ap (λ (x : List ℕ). subpool_line (model_of m) p ++ x ++ shown_areas) (extents_are extents)
      ∙ ap (λ (x : List ℕ). subpool_line (model_of m) p ++ flat_map extent_line (in_place.extents m.subpools p) ++ x) (areas_are areas)

-- the map in parts
pub map_is : (settings : Settings) (m : StorageState) → SubpoolsAreShown →
    storage_map settings (model_of m)
    ≡ flat_map (task_lines (model_of m)) (numbers 1 65)
    ++ flat_map (λ (p : Subpool). subpool_lines settings (model_of m) p.number p.owner) (subpools_in_order m.subpools)
    ++ flat_map (λ (row : List ℕ × CellPool). cell_pool_lines row.0 row.1) (model_of m).cell_pools
    ++ pages_line settings (model_of m) ++ bytes_line settings (model_of m)
map_is settings m shown =
    let tasks = flat_map (task_lines (model_of m)) (numbers 1 65) in
    let pools = flat_map (λ (row : List ℕ × CellPool). cell_pool_lines row.0 row.1) (model_of m).cell_pools in
    ap (λ (x : List ℕ). tasks ++ x ++ pools ++ pages_line settings (model_of m) ++ bytes_line settings (model_of m)) (shown settings m)
