-- The regions, and the place of an area in the first of them that has one.
use Rattle.std.proofs.Common.{◌≡◌, ℕ, ◌*◌, max, true, false, not, ◌||◌, nat_le, is_some, Option, Some, None, [], ◌∷◌, refl, sym, ap, ◌∙◌, arith}
use Rattle.std.proofs.lemmas.Bool.{le-leb, leb-true, or_left, or_right}
use Rattle.std.proofs.lemmas.Bool.Decides.{nat_tests}
use Rattle.vsm_model.specs.declared.Subpool.{Subpool}
use Rattle.vsm_model.specs.declared.limits.Residence.{Residence}
use Rattle.vsm_model.specs.declared.limits.Residence.TheVariants.{Below, Above}
use Rattle.vsm_model.specs.declared.limits.Settings.{Settings}
use Rattle.vsm_model.specs.Regions.{within, in_a_region, low_region, high_region, pages_for, regions_for, Region}
use Rattle.vsm_model.specs.State.{State}
use Rattle.vsm_model.specs.Areas.{Place, Inside, Fresh, Nowhere, is_nowhere, least_fit, least_run, or_fresh, or_place, place, place_in}
use Rattle.storage_plans.specs.declared.places.AreaPlace.{AreaPlace}
use Rattle.storage_plans.specs.declared.places.AreaPlace.TheVariants as areas
use Rattle.storage_plans.specs.Places.{IsUpTo, region_on, place_of}
use Rattle.storage_plans.proofs.LeastFits.{same_tests}

-- each page of a region is one of either region
pub of_a_region : (settings : Settings) (side : Residence) (page : ℕ) → within (region_on settings side) page ≡ true → in_a_region settings page ≡ true
of_a_region settings Below page e = or_right (within (high_region settings) page) (within (low_region settings) page || false) (or_left (within (low_region settings) page) false e)
of_a_region settings Above page e = or_left (within (high_region settings) page) (within (low_region settings) page || false) e

-- no place after the last region
or_nowhere : (x : Place) → or_place x Nowhere ≡ x
or_nowhere (Inside d) = refl
or_nowhere (Fresh page) = refl
or_nowhere Nowhere = refl

first_found : (x : AreaPlace) (y later : Place) → place_of (Some x) ≡ y → place_of (Some x) ≡ or_place y later
first_found (areas.Inside d) y later e = ap (λ (z : Place). or_place z later) e
first_found (areas.Fresh page) y later e = ap (λ (z : Place). or_place z later) e

module _ (settings : Settings) (s : State) where
  -- below the line there is one region,
  pub place_below : (side : Residence) (p : Subpool) (count spacing : ℕ) (o : Option AreaPlace) → side ≡ Below →
      place_of o ≡ place_in s p count spacing (region_on settings side) → place_of o ≡ place s (regions_for settings side) p count spacing
  place_below Below p count spacing o is e = e ∙ sym (or_nowhere (place_in s p count spacing (low_region settings)))
  place_below Above p count spacing o is e = absurd (cc)

  -- above it a place in the high region is the place,
  pub place_above : (side : Residence) (p : Subpool) (count spacing : ℕ) (o : Option AreaPlace) (x : AreaPlace) → side ≡ Above → o ≡ Some x →
      place_of o ≡ place_in s p count spacing (region_on settings side) → place_of (Some x) ≡ place s (regions_for settings side) p count spacing
  place_above Below p count spacing o x is has e = absurd (cc)
  place_above Above p count spacing o x is has e =
      first_found x (place_in s p count spacing (high_region settings)) (place s (low_region settings ∷ []) p count spacing) (ap place_of (sym has) ∙ e)

  -- and if there is none, one in the low region is.
  pub place_behind : (side : Residence) (p : Subpool) (count spacing : ℕ) (o later : Option AreaPlace) → side ≡ Above → o ≡ None →
      place_of o ≡ place_in s p count spacing (region_on settings side) → place_of later ≡ place_in s p count spacing (region_on settings Below) →
      place_of later ≡ place s (regions_for settings side) p count spacing
  place_behind Below p count spacing o later is has e f = absurd (cc)
  place_behind Above p count spacing o later is has e f =
      let low = place_in s p count spacing (low_region settings) in
      f ∙ sym (or_nowhere low) ∙ ap (λ (z : Place). or_place z (or_place low Nowhere)) (ap place_of (sym has) ∙ e)

-- What has a place in one of two ways has it up to the greater bound.
either_up_to : (n x y : ℕ) → (nat_le n x || nat_le n y) ≡ nat_le n (max x y)
either_up_to n x y = grind (arith, nat_tests)

enough_pages : (n y : ℕ) → nat_le (pages_for n) y ≡ nat_le n (512 * y)
enough_pages n y =
    same_tests (nat_le (pages_for n) y) (nat_le n (512 * y))
    (λ e. let low = leb-true (pages_for n) y e in le-leb n (512 * y) (omega (arith, low)))
    (λ e. let low = leb-true n (512 * y) e in le-leb (pages_for n) y (omega (arith, low)))

some_fresh : (x y : Option ℕ) → not (is_nowhere (or_fresh x y)) ≡ (is_some x || is_some y)
some_fresh (Some d) y = refl
some_fresh None (Some page) = refl
some_fresh None None = refl

some_place : (x y : Place) → not (is_nowhere (or_place x y)) ≡ (not (is_nowhere x) || not (is_nowhere y))
some_place (Inside d) y = refl
some_place (Fresh page) y = refl
some_place Nowhere y = refl

module _ (s : State) (p : Subpool) (spacing : ℕ) where
  -- in a region
  pub up_to_in : (r : Region) (own pages : ℕ) → IsUpTo (λ n. is_some (least_fit s r p n spacing)) own → IsUpTo (λ n. is_some (least_run s r n)) pages →
      IsUpTo (λ n. not (is_nowhere (place_in s p n spacing r))) (max own (512 * pages))
  up_to_in r own pages h g n some =
      some_fresh (least_fit s r p n spacing) (least_run s r (pages_for n))
      ∙ ap (λ b. b || is_some (least_run s r (pages_for n))) (h n some)
      ∙ ap (λ b. nat_le n own || b) (g (pages_for n) (omega (arith, some)) ∙ enough_pages n pages)
      ∙ either_up_to n own (512 * pages)

  -- and on a side of the line
  pub up_to_below : (settings : Settings) (side : Residence) (low : ℕ) → side ≡ Below → IsUpTo (λ n. not (is_nowhere (place_in s p n spacing (region_on settings Below)))) low →
      IsUpTo (λ n. not (is_nowhere (place s (regions_for settings side) p n spacing))) low
  up_to_below settings Below low is h n some = ap (λ z. not (is_nowhere z)) (or_nowhere (place_in s p n spacing (low_region settings))) ∙ h n some
  up_to_below settings Above low is h n some = absurd (cc)

  pub up_to_above : (settings : Settings) (side : Residence) (high low : ℕ) → side ≡ Above → IsUpTo (λ n. not (is_nowhere (place_in s p n spacing (region_on settings Above)))) high →
      IsUpTo (λ n. not (is_nowhere (place_in s p n spacing (region_on settings Below)))) low → IsUpTo (λ n. not (is_nowhere (place s (regions_for settings side) p n spacing))) (max high low)
  up_to_above settings Below high low is h g n some = absurd (cc)
  up_to_above settings Above high low is h g n some =
      let below = place_in s p n spacing (low_region settings) in
      let above = place_in s p n spacing (high_region settings) in
      some_place above (or_place below Nowhere)
      ∙ ap (λ b. b || not (is_nowhere (or_place below Nowhere))) (h n some)
      ∙ ap (λ b. nat_le n high || b) (ap (λ z. not (is_nowhere z)) (or_nowhere below) ∙ g n some)
      ∙ either_up_to n high low
