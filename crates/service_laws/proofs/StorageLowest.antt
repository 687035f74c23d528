-- An accepted obtain takes the lowest address, and an area without a place has no room.
use Rattle.std.proofs.Common.{◌≡◌, ℕ, ◌+◌, ◌*◌, ◌/◌, ◌%◌, ◌<◌, ◌≤◌, Bool, true, false, not, ◌&&◌, ◌==◌, Option, Some, None, is_some, List, [], ◌∷◌, sym, ap, subst, inl, inr, arith, true≢false}
use Rattle.std.specs.Prelude.{All}
use Rattle.std.proofs.lemmas.Bool.{and_parts, and_from, both_ways, not-true, eq-eqb, eqb-true, cases_lt}
use Rattle.std.proofs.lemmas.List.Elements.{All-nil, All-cons}
use Rattle.vsm_model.specs.declared.Subpool.{Subpool}
use Rattle.vsm_model.specs.Search.{all_pass, holds, IsLeastAmong}
use Rattle.vsm_model.specs.Regions.{Region, within, pages_for}
use Rattle.vsm_model.specs.State.{State}
use Rattle.vsm_model.specs.Subpools.{same_subpool}
use Rattle.vsm_model.specs.Areas.{Place, Inside, Fresh, Nowhere, is_free, fits, is_open_run, least_fit, least_run, or_fresh, or_place, place, place_in, is_nowhere, address_of}
use Rattle.vsm_model.proofs.Least.{all_pass_at, all_pass_from, least_among}
use Rattle.service_laws.specs.StorageLowestAddress.{AreFree, AreUnassigned, IsLowest, IsLowestIn, HasNoRoom, IsLowestAddress}
use Rattle.service_laws.proofs.Cases.{among_in, belongs_is, belongs_from, none_from}

module _ (s : State) (p : Subpool) (count boundary : ℕ) (some : 0 < count) where
  module _ (r : Region) where
    abbrev free_at : ℕ → Bool
    free_at k = within r (k / 512) && is_free s p k

    abbrev open_at : ℕ → Bool
    open_at k = within r k && not (is_some (s.pages k))

    free_from_fits : (d : ℕ) → fits s r p count boundary d ≡ true → AreFree r s p count boundary d
    free_from_fits d e =
        let parts = and_parts ((d % boundary) == 0) (all_pass free_at d count) e in (
          eqb-true (d % boundary) 0 parts.0,
          λ k from below.
              let here = and_parts (within r (k / 512)) (is_free s p k) (all_pass_at free_at d count k parts.1 from below) in
              let free = and_parts (holds (same_subpool p) (s.pages (k / 512))) (not (s.taken k)) here.1 in
              (here.0, belongs_is p (s.pages (k / 512)) free.0, not-true (s.taken k) free.1),
        )

    fits_from_free : (d : ℕ) → AreFree r s p count boundary d → fits s r p count boundary d ≡ true
    fits_from_free d free =
        and_from ((d % boundary) == 0) (all_pass free_at d count) (eq-eqb (d % boundary) 0 free.0)
        (all_pass_from free_at d count (λ k from below.
        let here = free.1 k from below in
        and_from (within r (k / 512)) (is_free s p k) here.0
        (and_from (holds (same_subpool p) (s.pages (k / 512))) (not (s.taken k)) (belongs_from p (s.pages (k / 512)) here.1) (ap not here.2))))

    -- free doublewords lie in the region
    free_within : (d : ℕ) → AreFree r s p count boundary d → (r.first * 512 ≤ d) × (d < r.first * 512 + r.count * 512)
    free_within d free =
        let at = among_in r.first r.count (d / 512) (free.1 d (omega arith) (omega (arith, some))).0 in
        let low = at.0 in
        let high = at.1 in
        (omega (arith, low), omega (arith, high))

    open_from_run : (n page : ℕ) → is_open_run s r n page ≡ true → AreUnassigned r s n page
    open_from_run n page e k from below =
        let here = and_parts (within r k) (not (is_some (s.pages k))) (all_pass_at open_at page n k e from below) in
        (here.0, none_from (s.pages k) (not-true (is_some (s.pages k)) here.1))

    run_from_open : (n page : ℕ) → AreUnassigned r s n page → is_open_run s r n page ≡ true
    run_from_open n page unassigned =
        all_pass_from open_at page n (λ k from below.
        let here = unassigned k from below in
        and_from (within r k) (not (is_some (s.pages k))) here.0 (ap (λ (o : Option Subpool). not (is_some o)) here.1))

    open_within : (n page : ℕ) → 0 < n → AreUnassigned r s n page → (r.first ≤ page) × (page < r.first + r.count)
    open_within n page more unassigned = among_in r.first r.count page (unassigned page (omega arith) (omega (arith, more))).0

    lowest_free : (d : ℕ) → IsLeastAmong (fits s r p count boundary) (r.first * 512) (r.count * 512) (Some d) → IsLowest (AreFree r s p count boundary) d
    lowest_free d h = (
      free_from_fits d h.0,
      λ k free. elim (cases_lt k d) [
        | inl below ↦ absurd (both_ways (fits s r p count boundary k) (h.3 k (free_within k free).0 below) (fits_from_free k free))
        | inr above ↦ above
      ],
    )

    none_free : IsLeastAmong (fits s r p count boundary) (r.first * 512) (r.count * 512) None → (d : ℕ) → AreFree r s p count boundary d → ⊥
    none_free h d free =
        let at = free_within d free in both_ways (fits s r p count boundary d) (h d at.0 at.1) (fits_from_free d free)

    lowest_open : (n page : ℕ) → 0 < n → IsLeastAmong (is_open_run s r n) r.first r.count (Some page) → IsLowest (AreUnassigned r s n) page
    lowest_open n page more h = (
      open_from_run n page h.0,
      λ k unassigned. elim (cases_lt k page) [
        | inl below ↦ absurd (both_ways (is_open_run s r n k) (h.3 k (open_within n k more unassigned).0 below) (run_from_open n k unassigned))
        | inr above ↦ above
      ],
    )

    none_open : (n : ℕ) → 0 < n → IsLeastAmong (is_open_run s r n) r.first r.count None → (page : ℕ) → AreUnassigned r s n page → ⊥
    none_open n more h page unassigned =
        let at = open_within n page more unassigned in both_ways (is_open_run s r n page) (h page at.0 at.1) (run_from_open n page unassigned)

  some_pages : 0 < pages_for count
  some_pages = omega (arith, some)

  -- what a place in a region says, and what its absence says
  abbrev Says : Region → Place → Type 0
  Says r (Inside d) = IsLowestIn r s p count boundary (8 * d)
  Says r (Fresh page) = IsLowestIn r s p count boundary (4096 * page)
  Says r Nowhere = HasNoRoom r s p count boundary

  says : (r : Region) (o f : Option ℕ) → IsLeastAmong (fits s r p count boundary) (r.first * 512) (r.count * 512) o →
      IsLeastAmong (is_open_run s r (pages_for count)) r.first r.count f → Says r (or_fresh o f)
  says r (Some d) f g h =
      let is : d ≡ 8 * d / 8 = omega arith in
      inl (omega arith, subst (IsLowest (AreFree r s p count boundary)) is (lowest_free r d g))
  says r None (Some page) g h =
      let is : page ≡ 4096 * page / 4096 = omega arith in
      inr (none_free r g, omega arith, subst (IsLowest (AreUnassigned r s (pages_for count))) is (lowest_open r (pages_for count) page some_pages h))
  says r None None g h = (none_free r g, none_open r (pages_for count) some_pages h)

  place_in_says : (r : Region) → Says r (place_in s p count boundary r)
  place_in_says r =
      says r (least_fit s r p count boundary) (least_run s r (pages_for count))
      (least_among (fits s r p count boundary) (r.first * 512) (r.count * 512)) (least_among (is_open_run s r (pages_for count)) r.first r.count)

  -- the same of regions in their order
  abbrev AllSay : List Region → Place → Type 0
  AllSay regions (Inside d) = IsLowestAddress regions s p count boundary (8 * d)
  AllSay regions (Fresh page) = IsLowestAddress regions s p count boundary (4096 * page)
  AllSay regions Nowhere = All (λ r. HasNoRoom r s p count boundary) regions

  either_says : (r : Region) (rs : List Region) (x y : Place) → Says r x → AllSay rs y → AllSay (r ∷ rs) (or_place x y)
  either_says r rs (Inside d) y g h = inl g
  either_says r rs (Fresh page) y g h = inl g
  either_says r rs Nowhere (Inside d) g h = inr (g, h)
  either_says r rs Nowhere (Fresh page) g h = inr (g, h)
  either_says r rs Nowhere Nowhere g h = All-cons (λ r. HasNoRoom r s p count boundary) r rs g h

  all_say : (regions : List Region) → AllSay regions (place s regions p count boundary)
  all_say [] = All-nil (λ r. HasNoRoom r s p count boundary)
  all_say (r ∷ rs) = either_says r rs (place_in s p count boundary r) (place s rs p count boundary) (place_in_says r) (all_say rs)

  lowest_of : (regions : List Region) (goes : Place) → AllSay regions goes → is_nowhere goes ≡ false → IsLowestAddress regions s p count boundary (address_of goes)
  lowest_of regions (Inside d) h there = h
  lowest_of regions (Fresh page) h there = h
  lowest_of regions Nowhere h there = absurd (true≢false there)

  no_room_of : (regions : List Region) (goes : Place) → AllSay regions goes → is_nowhere goes ≡ true → All (λ r. HasNoRoom r s p count boundary) regions
  no_room_of regions (Inside d) h none = absurd (true≢false (sym none))
  no_room_of regions (Fresh page) h none = absurd (true≢false (sym none))
  no_room_of regions Nowhere h none = h

  pub place_is_lowest : (regions : List Region) → is_nowhere (place s regions p count boundary) ≡ false →
      IsLowestAddress regions s p count boundary (address_of (place s regions p count boundary))
  place_is_lowest regions there = lowest_of regions (place s regions p count boundary) (all_say regions) there

  pub nowhere_has_no_room : (regions : List Region) → is_nowhere (place s regions p count boundary) ≡ true →
      All (λ r. HasNoRoom r s p count boundary) regions
  nowhere_has_no_room regions none = no_room_of regions (place s regions p count boundary) (all_say regions) none
