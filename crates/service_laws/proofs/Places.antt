-- A place lies in a region, and its addresses and lengths are words.
use Rattle.std.proofs.Common.{◌≡◌, ℕ, ◌+◌, ◌-◌, ◌*◌, ◌/◌, ◌%◌, ◌<◌, ◌≤◌, ◌^◌, true, false, ◌&&◌, ◌||◌, nat_le, ◌==◌, Option, Some, None, List, [], ◌∷◌, sym, arith, inl, inr, true≢false, refl}
use Rattle.std.proofs.lemmas.Bool.{and_parts, or_cases, or_left, or_right, leb-true}
use Rattle.vsm_model.specs.declared.Subpool.{Subpool}
use Rattle.vsm_model.specs.declared.limits.Residence.{Residence}
use Rattle.vsm_model.specs.declared.limits.Residence.TheVariants.{Below, Above}
use Rattle.vsm_model.specs.declared.limits.Settings.{Settings}
use Rattle.vsm_model.specs.Search.{all_pass, IsLeastAmong}
use Rattle.vsm_model.specs.Regions.{Region, within, in_a_region, low_region, high_region, regions_for, settings_valid, size_valid, pages_for}
use Rattle.vsm_model.specs.State.{State}
use Rattle.vsm_model.specs.Areas.{Place, Inside, Fresh, Nowhere, is_free, fits, is_open_run, least_fit, least_run, or_fresh, or_place, place, place_in, is_nowhere, address_of}
use Rattle.vsm_model.proofs.Least.{all_pass_at, least_among}
use Rattle.service_laws.specs.Granted.{IsOnSide}
use Rattle.service_laws.proofs.Cases.{among_in}

-- each page of the region is one of either region
abbrev pub IsOf : Settings → Region → Type 0
IsOf settings r = (k : ℕ) → within r k ≡ true → in_a_region settings k ≡ true

-- each of these regions has the property
abbrev pub AllOf : (Region → Type 0) → List Region → Type 0
AllOf P [] = Unit {0}
AllOf P (r ∷ rs) = P r × AllOf P rs

pub regions_are : (settings : Settings) (side : Residence) → AllOf (IsOf settings) (regions_for settings side)
regions_are settings Below = (λ k e. or_right (within (high_region settings) k) _ (or_left (within (low_region settings) k) _ e), tt)
regions_are settings Above = (
  λ k e. or_left (within (high_region settings) k) _ e,
  (λ k e. or_right (within (high_region settings) k) _ (or_left (within (low_region settings) k) _ e), tt),
)

pub regions_on_side : (settings : Settings) (residence : Residence) → AllOf (IsOnSide settings residence) (regions_for settings residence)
regions_on_side settings Below = (inl refl, tt)
regions_on_side settings Above = (inr (refl, refl), (inl refl, tt))

module _ (P : Region → Type 0) (s : State) (p : Subpool) (count boundary : ℕ) where
  -- An area that goes there is free in a region with the property, or its pages are unassigned in one.
  abbrev pub Goes : Place → Type 0
  Goes (Inside d) = (r : Region) × P r × (fits s r p count boundary d ≡ true)
  Goes (Fresh page) = (r : Region) × P r × (is_open_run s r (pages_for count) page ≡ true)
  Goes Nowhere = Unit {0}

  goes_in : (r : Region) → P r → (o f : Option ℕ) → IsLeastAmong (fits s r p count boundary) (r.first * 512) (r.count * 512) o →
      IsLeastAmong (is_open_run s r (pages_for count)) r.first r.count f → Goes (or_fresh o f)
  goes_in r its (Some d) f g h = (r, its, g.0)
  goes_in r its None (Some page) g h = (r, its, h.0)
  goes_in r its None None g h = tt

  either_goes : (x y : Place) → Goes x → Goes y → Goes (or_place x y)
  either_goes (Inside d) y g h = g
  either_goes (Fresh page) y g h = g
  either_goes Nowhere y g h = h

  pub place_goes : (regions : List Region) → AllOf P regions → Goes (place s regions p count boundary)
  place_goes [] its = tt
  place_goes (r ∷ rs) its =
      either_goes (place_in s p count boundary r) (place s rs p count boundary)
      (goes_in r its.0 (least_fit s r p count boundary) (least_run s r (pages_for count))
      (least_among (fits s r p count boundary) (r.first * 512) (r.count * 512)) (least_among (is_open_run s r (pages_for count)) r.first r.count))
      (place_goes rs its.1)

size_most : (most size : ℕ) → size_valid most size ≡ true → size ≤ most
size_most most size e =
    leb-true size most (and_parts (nat_le 4 size) (nat_le size most) (and_parts (nat_le 4 size && nat_le size most) ((size % 4) == 0) e).0).1

-- each page of a region is below that of the address 2 ^ 32 - 4096
pub page_is_low : (settings : Settings) (k : ℕ) → settings_valid settings ≡ true → in_a_region settings k ≡ true → k < 1048575
page_is_low settings k valid e =
    let sizes = (and_parts (size_valid 16360 settings.low_k && size_valid 1572864 settings.high_k) (nat_le 1 settings.history && nat_le settings.history 65536) valid).0 in
    let both = and_parts (size_valid 16360 settings.low_k) (size_valid 1572864 settings.high_k) sizes in
    let low_most = size_most 16360 settings.low_k both.0 in
    let high_most = size_most 1572864 settings.high_k both.1 in
    elim (or_cases (within (high_region settings) k) (within (low_region settings) k || false) e) [
      | inl high ↦ let place = among_in 32768 (settings.high_k / 4) k high in let below = place.1 in omega (arith, high_most, below)
      | inr rest ↦ elim (or_cases (within (low_region settings) k) false rest) [
        | inl low ↦ let place = among_in 6 (settings.low_k / 4) k low in let below = place.1 in omega (arith, low_most, below)
        | inr none ↦ absurd (true≢false (sym none))
      ]
    ]

-- The address and the length of an area that has a place are words.
pub place_in_words : (settings : Settings) (s : State) (p : Subpool) (count boundary : ℕ) (goes : Place) → settings_valid settings ≡ true → 0 < count →
    Goes (IsOf settings) s p count boundary goes → is_nowhere goes ≡ false → (address_of goes < 2 ^ 32) × (8 * count < 2 ^ 32)
place_in_words settings s p count boundary (Inside d) valid some (r, its, fit) there =
    let free = (and_parts ((d % boundary) == 0) (all_pass (λ k. within r (k / 512) && is_free s p k) d count) fit).1 in
    let at : (k : ℕ) → d ≤ k → k < d + count → k / 512 < 1048575 =
    λ k low high. page_is_low settings (k / 512) valid (its (k / 512) (and_parts (within r (k / 512)) (is_free s p k) (all_pass_at (λ k. within r (k / 512) && is_free s p k) d count k free low high)).0) in
    let first = at d (omega arith) (omega (arith, some)) in
    let last = at (d + count - 1) (omega (arith, some)) (omega (arith, some)) in
    (omega (arith, first), omega (arith, last, some))
place_in_words settings s p count boundary (Fresh page) valid some (r, its, run) there =
    let at : (k : ℕ) → page ≤ k → k < page + pages_for count → k < 1048575 =
    λ k low high. page_is_low settings k valid (its k (and_parts (within r k) _ (all_pass_at _ page (pages_for count) k run low high)).0) in
    let first = at page (omega arith) (omega (arith, some)) in
    let last = at (page + pages_for count - 1) (omega (arith, some)) (omega (arith, some)) in
    (omega (arith, first), omega (arith, last, some))
place_in_words settings s p count boundary Nowhere valid some goes there = absurd (true≢false there)
