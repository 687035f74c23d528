-- The totals of a map as sums, and how great these can be.
use Rattle.std.proofs.Common.{◌≡◌, ◌+◌, ◌*◌, ◌^◌, ◌≤◌, true, false}
use Rattle.std.proofs.Props.{props}
use mathlib.Core.Logic.{∥∥₁_elim}
use Rattle.storage_changes.specs.MapTotals.{all_pages, all_free, PagesAreCounted, BytesAreCounted, TotalsAreFew}
use Rattle.storage_changes.specs.State.{StorageState}
use Rattle.storage_changes.specs.Meaning.{model_of, IsSound}
use Rattle.vsm_model.specs.declared.limits.Settings.{Settings}
use Rattle.vsm_model.specs.Regions.{settings_valid, low_region, high_region}
use Rattle.vsm_model.specs.Map.{assigned_pages, total_bytes}

-- what the sums over a storage are on the plain machine, and that they are small
pub record SumsAre (settings : Settings) (m : StorageState) : Type 0 where
  pub low : assigned_pages (model_of m) (low_region settings) ≡ all_pages m.subpools true
  pub high : assigned_pages (model_of m) (high_region settings) ≡ all_pages m.subpools false
  pub free : total_bytes settings (model_of m) false ≡ 8 * all_free m.subpools
  pub all : total_bytes settings (model_of m) true + total_bytes settings (model_of m) false ≡ 4096 * (all_pages m.subpools true + all_pages m.subpools false)
  pub low_most : all_pages m.subpools true ≤ 2 ^ 20
  pub high_most : all_pages m.subpools false ≤ 2 ^ 20
  pub free_most : all_free m.subpools ≤ 2 ^ 29

pub sums_are : (settings : Settings) (m : StorageState) → settings_valid settings ≡ true → ∥ IsSound settings m ∥₁ → PagesAreCounted → BytesAreCounted → TotalsAreFew → SumsAre settings m
sums_are settings m valid sound pages bytes few = record {
  low = ∥∥₁_elim sound (hlevel props) (λ h. (pages settings m valid h).0);
  high = ∥∥₁_elim sound (hlevel props) (λ h. (pages settings m valid h).1);
  free = ∥∥₁_elim sound (hlevel props) (λ h. (bytes settings m valid h).0);
  all = ∥∥₁_elim sound (hlevel props) (λ h. (bytes settings m valid h).1);
  low_most = ∥∥₁_elim sound (hlevel props) (λ h. (few settings m valid h).1 true);
  high_most = ∥∥₁_elim sound (hlevel props) (λ h. (few settings m valid h).1 false);
  free_most = ∥∥₁_elim sound (hlevel props) (λ h. (few settings m valid h).3);
}
