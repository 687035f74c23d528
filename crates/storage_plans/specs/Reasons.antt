-- Why an area is placed where it is, in terms of the plain machine.
use Rattle.std.specs.Prelude.{◌≡◌, ℕ, Option, Some, None, is_some}
use Rattle.vsm_model.specs.declared.Subpool.{Subpool}
use Rattle.vsm_model.specs.declared.limits.Residence.{Residence}
use Rattle.vsm_model.specs.declared.limits.Settings.{Settings}
use Rattle.vsm_model.specs.Areas.{Place, or_fresh, or_place, least_fit, least_run}
use Rattle.vsm_model.specs.Regions.{pages_for}
use Rattle.vsm_model.specs.State.{State}
use Rattle.storage_plans.specs.Places.{IsUpTo, region_on}
use Rattle.storage_plans.specs.declared.reasons.SideReason.{SideReason}

-- What a side has is what the plain machine's searches find there.
pub record IsReason (settings : Settings) (s : State) (side : Residence) (p : Subpool) (count spacing : ℕ)
    (r : SideReason) : Type 0 where
  pub side_is : r.side ≡ side
  pub inside : r.inside ≡ least_fit s (region_on settings side) p count spacing
  pub fresh : r.fresh ≡ least_run s (region_on settings side) (pages_for count)
  pub longest_inside : IsUpTo (λ n. is_some (least_fit s (region_on settings side) p n spacing)) r.longest_inside
  pub longest_run : IsUpTo (λ n. is_some (least_run s (region_on settings side) n)) r.longest_run

-- the place on one side, and on those that are looked at
abbrev pub side_place : SideReason → Place
side_place r = or_fresh r.inside r.fresh

abbrev pub reasons_place : SideReason × Option SideReason → Place
reasons_place (first, None) = side_place first
reasons_place (first, Some second) = or_place (side_place first) (side_place second)
