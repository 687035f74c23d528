-- The place of an area, in terms of the plain machine. Assembler Services Guide, "Virtual storage management",
-- "Explicit requests for virtual storage"; Assembler Services Reference, STORAGE, LOC and BNDRY.
use Rattle.std.specs.Prelude.{◌≡◌, ℕ, ◌<◌, Bool, true, nat_le, Option, Some, None}
use Rattle.vsm_model.specs.declared.limits.Residence.{Residence}
use Rattle.vsm_model.specs.declared.limits.Residence.TheVariants.{Below, Above}
use Rattle.vsm_model.specs.declared.limits.Settings.{Settings}
use Rattle.vsm_model.specs.Areas.{Place, Inside, Fresh, Nowhere}
use Rattle.vsm_model.specs.Regions.{Region, low_region, high_region, settings_valid}
use Rattle.storage_changes.specs.Meaning.{IsSound}
use Rattle.storage_swap.specs.declared.storage.Parts.{Parts}
use Rattle.storage_swap.specs.Storage.{state_of, Stand}
use Rattle.storage_plans.specs.declared.places.AreaPlace.{AreaPlace}
use Rattle.storage_plans.specs.declared.places.AreaPlace.TheVariants as areas

-- The storage is well formed, and sound at these settings. It is sound in more than one way, as each page has a taken
-- doubleword: so it's only stated that there is one.
pub record StandsSound (settings : Settings) (p : Parts) : Type 0 where
  pub stands : Stand p
  pub sound : ∥ IsSound settings (state_of p) ∥₁

-- The same, and the settings are valid.
pub record StandsAt (settings : Settings) (p : Parts) : Type 0 where
  pub sound : StandsSound settings p
  pub valid : settings_valid settings ≡ true

-- the region on this side of the line
abbrev pub region_on : Settings → Residence → Region
region_on settings Below = low_region settings
region_on settings Above = high_region settings

-- where an area is placed: in free storage of the subpool from a doubleword on, in new pages from one on, or nowhere
abbrev pub place_of : Option AreaPlace → Place
place_of (Some (areas.Inside doubleword)) = Inside doubleword
place_of (Some (areas.Fresh page)) = Fresh page
place_of None = Nowhere

-- of the counts from 1 on, exactly those up to this one pass the test
abbrev pub IsUpTo : (ℕ → Bool) → ℕ → Type 0
IsUpTo passes most = (count : ℕ) → 0 < count → passes count ≡ nat_le count most
