-- The totals of a storage.
-- Assembler Services Guide, "Virtual storage management".
use Rattle.std.specs.Prelude.{ℕ, Bool, true, false}
use Rattle.storage_changes.specs.MapTotals.{subpool_pages, subpool_free}
use Rattle.subpool_set.specs.declared.places.SubpoolPlace.{SubpoolPlace}
use Rattle.storage_core.specs.declared.storage.Storage.{Storage}
use Rattle.storage_core.specs.Meaning.{state_in_place}
use Rattle.storage_core.specs.Walks.{subpool_before}
use Rattle.vsm_model.specs.declared.limits.Settings.{Settings}
use Rattle.vsm_model.specs.Regions.{low_region, high_region}
use Rattle.vsm_model.specs.State.{State}
use Rattle.vsm_model.specs.Map.{assigned_pages, total_bytes}
use Rattle.storage_map.specs.declared.counts.Totals.{Totals}

-- the assigned pages of each region and all of its pages, and the bytes of assigned pages that are taken or free
abbrev pub totals_of : Settings → State → Totals
totals_of settings s =
    record {
      low_pages = assigned_pages s (low_region settings);
      low_size = (low_region settings).count;
      high_pages = assigned_pages s (high_region settings);
      high_size = (high_region settings).count;
      taken = total_bytes settings s true;
      free = total_bytes settings s false;
    }

-- the pages below the 16 MB line, or those above it, of the subpool before the place, and its free doublewords
abbrev pub pages_before : Storage → SubpoolPlace → Bool → ℕ
pages_before s place below = subpool_pages (state_in_place s).subpools below (subpool_before s place)

abbrev pub free_before : Storage → SubpoolPlace → ℕ
free_before s place = subpool_free (state_in_place s).subpools (subpool_before s place)
