-- The totals of a map as sums over the subpools.
-- Assembler Services Guide, "Virtual storage management", "Subpool handling".
use Rattle.std.specs.Prelude.{◌≡◌, ℕ, ◌+◌, ◌*◌, ◌^◌, ◌≤◌, Bool, true, false, nat_lt, if◌then◌else◌, List, [], ◌∷◌}
use Rattle.run_set.specs.Runs.{Run}
use Rattle.subpool_storage.specs.Extents.{extents, free_areas}
use Rattle.subpool_storage.specs.Order.{subpools_in_order}
use Rattle.subpool_storage.specs.Subpools.{Subpools}
use Rattle.storage_changes.specs.State.{StorageState}
use Rattle.storage_changes.specs.Meaning.{model_of, IsSound}
use Rattle.vsm_model.specs.declared.Subpool.{Subpool}
use Rattle.vsm_model.specs.declared.limits.Settings.{Settings}
use Rattle.vsm_model.specs.Regions.{settings_valid, low_region, high_region}
use Rattle.vsm_model.specs.Map.{assigned_pages, total_bytes}

-- the sum of what each has
abbrev pub sum_of : {A : Type 0} → (A → ℕ) → List A → ℕ
sum_of count [] = 0
sum_of count (x ∷ xs) = count x + sum_of count xs

-- how many pages of a run lie below the 16 MB line, which is before page 4096, or above it
abbrev pub pages_on_side : Bool → Run → ℕ
pages_on_side below r = if nat_lt r.start 4096 then (if below then r.len else 0) else (if below then 0 else r.len)

-- the pages of a subpool on a side of the line, and those of all subpools
abbrev pub subpool_pages : Subpools → Bool → Subpool → ℕ
subpool_pages m below p = sum_of (pages_on_side below) (extents m p)

abbrev pub all_pages : Subpools → Bool → ℕ
all_pages m below = sum_of (subpool_pages m below) (subpools_in_order m)

-- the free doublewords of a subpool, and those of all subpools
abbrev pub subpool_free : Subpools → Subpool → ℕ
subpool_free m p = sum_of (λ r. r.len) (free_areas m p)

abbrev pub all_free : Subpools → ℕ
all_free m = sum_of (subpool_free m) (subpools_in_order m)

-- The assigned pages of a region are those of all subpools on its side of the line.
abbrev pub PagesAreCounted : Type 0
PagesAreCounted = (settings : Settings) (m : StorageState) → settings_valid settings ≡ true → IsSound settings m
    → (assigned_pages (model_of m) (low_region settings) ≡ all_pages m.subpools true)
    × (assigned_pages (model_of m) (high_region settings) ≡ all_pages m.subpools false)

-- The free bytes are those of the free areas of all subpools, and the taken bytes the rest of the assigned pages.
abbrev pub BytesAreCounted : Type 0
BytesAreCounted = (settings : Settings) (m : StorageState) → settings_valid settings ≡ true → IsSound settings m
    → (total_bytes settings (model_of m) false ≡ 8 * all_free m.subpools)
    × (total_bytes settings (model_of m) true + total_bytes settings (model_of m) false
    ≡ 4096 * (all_pages m.subpools true + all_pages m.subpools false))

-- None of these sums is more than the pages, or the doublewords, that can exist.
abbrev pub TotalsAreFew : Type 0
TotalsAreFew = (settings : Settings) (m : StorageState) → settings_valid settings ≡ true → IsSound settings m
    → ((below : Bool) (p : Subpool) → subpool_pages m.subpools below p ≤ 2 ^ 20)
    × ((below : Bool) → all_pages m.subpools below ≤ 2 ^ 20)
    × ((p : Subpool) → subpool_free m.subpools p ≤ 2 ^ 29)
    × (all_free m.subpools ≤ 2 ^ 29)
