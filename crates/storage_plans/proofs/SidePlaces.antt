-- What the sides of the line have for an area, and the place that results.
use Rattle.std.proofs.Common.{◌≡◌, ℕ, ◌-◌, Option, Some, None, refl, ap, ◌∙◌}
use Rattle.vsm_model.specs.declared.Subpool.{Subpool}
use Rattle.vsm_model.specs.declared.limits.Residence.{Residence}
use Rattle.vsm_model.specs.declared.limits.Residence.TheVariants.{Below, Above}
use Rattle.vsm_model.specs.declared.limits.Settings.{Settings}
use Rattle.vsm_model.specs.Areas.{Place, Inside, Fresh, Nowhere, least_fit, or_fresh, or_place, place, place_in}
use Rattle.vsm_model.specs.Regions.{regions_for, low_region, high_region}
use Rattle.vsm_model.specs.State.{State}
use Rattle.storage_plans.specs.Places.{region_on}
use Rattle.storage_plans.specs.Reasons.{IsReason, side_place, reasons_place}
use Rattle.storage_plans.specs.declared.reasons.SideReason.{SideReason}

or_none : (x : Place) → x ≡ or_place x Nowhere
or_none (Inside d) = refl
or_none (Fresh page) = refl
or_none Nowhere = refl

module _ (settings : Settings) (s : State) (p : Subpool) (count spacing : ℕ) where
  side_is : (side : Residence) (r : SideReason) → IsReason settings s side p count spacing r → side_place r ≡ place_in s p count spacing (region_on settings side)
  side_is side r h =
      ap (λ (x : Option ℕ). or_fresh x r.fresh) h.inside
      ∙ ap (λ (y : Option ℕ). or_fresh (least_fit s (region_on settings side) p count spacing) y) h.fresh

  pub below_is : (side : Residence) (r : SideReason) → side ≡ Below → IsReason settings s side p count spacing r →
      reasons_place (r, None) ≡ place s (regions_for settings side) p count spacing
  below_is Below r e h = side_is Below r h ∙ or_none (place_in s p count spacing (low_region settings))
  below_is Above r e h = absurd (cc)

  pub above_is : (side : Residence) (a b : SideReason) → side ≡ Above → IsReason settings s side p count spacing a → IsReason settings s Below p count spacing b →
      reasons_place (a, Some b) ≡ place s (regions_for settings side) p count spacing
  above_is Below a b e h k = absurd (cc)
  above_is Above a b e h k =
      ap (λ (x : Place). or_place x (side_place b)) (side_is Above a h)
      ∙ ap (λ (y : Place). or_place (place_in s p count spacing (high_region settings)) y) (side_is Below b k ∙ or_none (place_in s p count spacing (low_region settings)))
