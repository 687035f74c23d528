-- The place of an extent: it has room in the subpool, and ends in storage.
use Rattle.std.proofs.Common.{◌≡◌, ℕ, ◌+◌, ◌-◌, ◌*◌, ◌/◌, ◌%◌, ◌<◌, ◌≤◌, ◌^◌, Bool, true, not, ◌&&◌, ◌==◌, is_some, Some, refl, sym, ◌∙◌, subst, arith}
use Rattle.std.proofs.Math.Bool.{Bool-set}
use Rattle.std.proofs.Math.Logic.{∥∥₁_elim}
use Rattle.std.proofs.lemmas.Bool.{and_parts, and_from, eq-eqb}
use Rattle.run_set.specs.Runs.{inside}
use Rattle.vsm_model.specs.declared.Subpool.{Subpool}
use Rattle.vsm_model.specs.declared.limits.Residence.{Residence}
use Rattle.vsm_model.specs.declared.limits.Settings.{Settings}
use Rattle.vsm_model.specs.Areas.{Place, Inside, Fresh, fits, is_free, place}
use Rattle.vsm_model.specs.Regions.{among, pages_for, regions_for, settings_valid, within}
use Rattle.vsm_model.specs.Search.{all_pass}
use Rattle.vsm_model.specs.State.{State}
use Rattle.vsm_model.proofs.Least.{all_pass_at}
use Rattle.service_laws.proofs.Cases.{among_in}
use Rattle.service_laws.proofs.Places.{Goes, IsOf, place_goes, place_in_words, regions_are}
use Rattle.storage_changes.specs.Meaning.{model_of, IsSound}
use Rattle.storage_changes.specs.State.{StorageState}
use Rattle.storage_changes.proofs.MeaningLemmas.{free_storage_is_free, unassigned_pages_are_nobodys}
use Rattle.storage_changes.proofs.Rows.{none_fresh}
use Rattle.storage_plans.specs.ObtainPlans.{place_address, place_blanks, place_pages, place_records}
use Rattle.storage_plans.specs.Places.{place_of}
use Rattle.storage_plans.specs.declared.places.AreaPlace.{AreaPlace}
use Rattle.storage_plans.specs.declared.places.AreaPlace.TheVariants as areas
use Rattle.storage_plans.proofs.AskedLengths.{is_somewhere}
use Rattle.storage_changes.specs.CellActions.{HasRoom, area_blanks, area_pages, area_records}

-- a place that is one has the same records,
pub same_records : (p : Subpool) (count : ℕ) (x : AreaPlace) → place_records p count x ≡ area_records p count (place_of (Some x))
same_records p count (areas.Inside d) = refl
same_records p count (areas.Fresh page) = refl

-- blank elements
pub same_blanks : (x : AreaPlace) → place_blanks x ≡ area_blanks (place_of (Some x))
same_blanks (areas.Inside d) = refl
same_blanks (areas.Fresh page) = refl

pub few_blanks : (x : AreaPlace) → place_blanks x ≤ 5
few_blanks (areas.Inside d) = omega arith
few_blanks (areas.Fresh page) = omega arith

-- and pages.
pub same_pages : (count : ℕ) (x : AreaPlace) → place_pages count x ≡ area_pages count (place_of (Some x))
same_pages count (areas.Inside d) = refl
same_pages count (areas.Fresh page) = refl

-- one that passes is a run that passes
one_passes : (f : ℕ → Bool) (k : ℕ) → f k ≡ true → all_pass f k 1 ≡ true
one_passes f k e = and_from (f k) true e refl

module _ (settings : Settings) (m : StorageState) (p : Subpool) (side : Residence) (count : ℕ) (valid : settings_valid settings ≡ true) (some : 0 < count) where
  abbrev s : State
  s = model_of m

  abbrev GoesHere : Place → Type 0
  GoesHere x = Goes (IsOf settings) s p count 1 x

  goes_at : (x : Place) → x ≡ place s (regions_for settings side) p count 1 → GoesHere x
  goes_at x e =
      subst (Goes (IsOf settings) s p count 1) (sym e) (place_goes (IsOf settings) s p count 1 (regions_for settings side) (regions_are settings side))

  inside_ends : (d : ℕ) → GoesHere (Inside d) → d + count ≤ 2 ^ 29
  inside_ends d (r, its, fit) =
      let last : ℕ = d + count - 1 in
      let here : ℕ → Bool = λ k. within r (k / 512) && is_free s p k in
      let free = (and_parts ((d % 1) == 0) (all_pass here d count) fit).1 in
      let passes : here last ≡ true = all_pass_at here d count last free (omega (arith, some)) (omega (arith, some)) in
      let fits_last : fits s r p 1 1 last ≡ true = and_from ((last % 1) == 0) (all_pass here last 1) (eq-eqb (last % 1) 0 (omega arith)) (one_passes here last passes) in
      let words = place_in_words settings s p 1 1 (Inside last) valid (omega arith) (r, its, fits_last) refl in
      let low = words.0 in
      omega (arith, low, some)

  fresh_ends : (page : ℕ) → GoesHere (Fresh page) → page + pages_for count ≤ 2 ^ 20
  fresh_ends page (r, its, run) =
      let last : ℕ = page + pages_for count - 1 in
      let here : ℕ → Bool = λ k. within r k && not (is_some (s.pages k)) in
      let passes : here last ≡ true = all_pass_at here page (pages_for count) last run (omega (arith, some)) (omega (arith, some)) in
      let words = place_in_words settings s p 1 1 (Fresh last) valid (omega arith) (r, its, one_passes here last passes) refl in
      let low = words.0 in
      omega (arith, low, some)

  inside_free : IsSound settings m → (d : ℕ) → GoesHere (Inside d) → (k : ℕ) → among d count k ≡ true → m.subpools.free p k ≡ true
  inside_free sound d (r, its, fit) k own =
      let here : ℕ → Bool = λ k. within r (k / 512) && is_free s p k in
      let free = (and_parts ((d % 1) == 0) (all_pass here d count) fit).1 in
      let at = among_in d count k own in
      sym (free_storage_is_free settings m sound p k) ∙ (and_parts (within r (k / 512)) (is_free s p k) (all_pass_at here d count k free at.0 at.1)).1

  fresh_unassigned : IsSound settings m → (page : ℕ) → GoesHere (Fresh page) → (k : ℕ) → among page (pages_for count) k ≡ true → m.unassigned k ≡ true
  fresh_unassigned sound page (r, its, run) k own =
      let here : ℕ → Bool = λ k. within r k && not (is_some (s.pages k)) in
      let at = among_in page (pages_for count) k own in
      let parts = and_parts (within r k) (not (is_some (s.pages k))) (all_pass_at here page (pages_for count) k run at.0 at.1) in
      unassigned_pages_are_nobodys settings m sound k (its k parts.0) ∙ parts.1

  room_at : IsSound settings m → (x : AreaPlace) → GoesHere (place_of (Some x)) → HasRoom m p count (place_of (Some x))
  room_at sound (areas.Inside d) goes = (inside_ends d goes, inside_free sound d goes)
  room_at sound (areas.Fresh page) goes = (fresh_ends page goes, fresh_unassigned sound page goes)

  range_at : (x : AreaPlace) → GoesHere (place_of (Some x)) → (place_pages count x).start + (place_pages count x).len ≤ 2 ^ 20
  range_at (areas.Inside d) goes = omega arith
  range_at (areas.Fresh page) goes = fresh_ends page goes

  unassigned_at : IsSound settings m → (x : AreaPlace) → GoesHere (place_of (Some x)) → (k : ℕ) → inside k (place_pages count x) ≡ true → m.unassigned k ≡ true
  unassigned_at sound (areas.Inside d) goes k own = none_fresh m k own
  unassigned_at sound (areas.Fresh page) goes k own = fresh_unassigned sound page goes k own

  end_at : (x : AreaPlace) → GoesHere (place_of (Some x)) → place_address x + 8 * count ≤ 2 ^ 32
  end_at (areas.Inside d) goes = let end = inside_ends d goes in omega (arith, end)
  end_at (areas.Fresh page) goes = let end = fresh_ends page goes in omega (arith, end)

  -- What an area that has a place has at it.
  module _ (x : AreaPlace) (e : place_of (Some x) ≡ place s (regions_for settings side) p count 1) where
    pub has_room : IsSound settings m → HasRoom m p count (place_of (Some x))
    has_room sound = room_at sound x (goes_at (place_of (Some x)) e)

    pub in_range : (place_pages count x).start + (place_pages count x).len ≤ 2 ^ 20
    in_range = range_at x (goes_at (place_of (Some x)) e)

    pub are_unassigned : ∥ IsSound settings m ∥₁ → (k : ℕ) → inside k (place_pages count x) ≡ true → m.unassigned k ≡ true
    are_unassigned sound k own =
        ∥∥₁_elim sound (Bool-set _ _) (λ h. unassigned_at h x (goes_at (place_of (Some x)) e) k own)

    pub ends_in_storage : place_address x + 8 * count ≤ 2 ^ 32
    ends_in_storage = end_at x (goes_at (place_of (Some x)) e)

    -- its address and its length are words
    pub in_words : (place_address x < 2 ^ 32) × (0 < count) × (count < 2 ^ 29)
    in_words =
        let words = place_in_words settings s p count 1 (place_of (Some x)) valid some (goes_at (place_of (Some x)) e) (is_somewhere x) in
        let length = words.1 in
        (words.0, some, omega (arith, length))
