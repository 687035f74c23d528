-- What holds of every storage.
use Rattle.std.specs.Prelude.{◌≡◌, ℕ, ◌≤◌, true, IsTrue}
use Rattle.raw_region.specs.Pages.{has_segment}
use Rattle.vsm_model.specs.declared.limits.Settings.{Settings}
use Rattle.vsm_model.specs.Regions.{settings_valid, in_a_region}
use Rattle.storage_changes.specs.Meaning.{IsSound}
use Rattle.storage_swap.specs.declared.storage.Parts.{Parts}
use Rattle.storage_swap.specs.Storage.{hold, state_of, Stand, IsFrameless}
use Rattle.storage_swap.specs.Props.{Stand-prop, IsFrameless-prop}
use Rattle.std.proofs.Props.{props}

-- Its parts are well-formed, no element is in two parts, an unassigned page has no frame, each page of the regions can
-- have a table, and the state is sound at the settings.
pub record IsHeld (settings : Settings) (p : Parts) : Type 0 where
  pub valid : settings_valid settings ≡ true
  pub stands : Stand p
  pub once : (i : ℕ) → hold p i ≤ 1
  pub frameless : IsFrameless p
  pub segments : (page : ℕ) → in_a_region settings page ≡ true → IsTrue (has_segment p.region page)
  pub sound : ∥ IsSound settings (state_of p) ∥₁

-- it is held in at most one way
pub IsHeld-prop : (settings : Settings) (p : Parts) → IsProp (IsHeld settings p)
IsHeld-prop settings p = hlevel (Stand-prop p, IsFrameless-prop p, props)
