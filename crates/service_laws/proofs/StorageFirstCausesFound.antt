-- A service on storage is refused for the first cause whose condition holds.
use Rattle.std.proofs.Common.{◌≡◌, ◌≢◌, ◌⊎◌, ℕ, suc, ◌+◌, ◌-◌, ◌*◌, ◌/◌, ◌%◌, ◌<◌, ◌≤◌, Bool, true, false, not, ◌||◌, nat_lt, ◌==◌, Option, Some, None, is_some, List, [], ◌∷◌, length, slice_index_or, refl, sym, ◌∙◌, ap, subst, inl, inr, true≢false, arith}
use Rattle.std.specs.Prelude.{is_none, All, unwrap_or}
use Rattle.std.specs.List.{list_any}
use Rattle.std.proofs.lemmas.Bool.{and_parts, and_cases, or_cases, or_left, or_right, or_from, or_parts, both_ways, not-true, not-false, false_from_ne_true, eqb-true, eqb-false, ltb-true, ltb-false}
use Rattle.std.proofs.lemmas.List.Elements.{All-head, All-tail}
use Rattle.vsm_model.specs.declared.Subpool.{Subpool}
use Rattle.vsm_model.specs.declared.causes.Cause.{Cause}
use Rattle.vsm_model.specs.declared.causes.Cause.TheVariants.{UnsupportedSubpool, SubpoolNotAllowed, BadLength, TooManyNames, NoStorage, Misaligned, NotInSubpool, OverlapsFree, OverlapsCells, WholeOfZero, NotOwner, NotAssigned}
use Rattle.vsm_model.specs.declared.limits.Settings.{Settings}
use Rattle.vsm_model.specs.declared.services.Obtain.{Obtain}
use Rattle.vsm_model.specs.declared.services.Release.{Release}
use Rattle.vsm_model.specs.Search.{holds, some_pass, IsGreatestAmong}
use Rattle.vsm_model.specs.Regions.{in_a_region, doublewords, regions_for, side}
use Rattle.vsm_model.specs.CellPools.{CellPool, CellExtent, extent_doublewords}
use Rattle.vsm_model.specs.State.{State}
use Rattle.vsm_model.specs.Subpools.{same_subpool, sees_one, seen_or_own}
use Rattle.vsm_model.specs.Areas.{is_nowhere, spacing}
use Rattle.vsm_model.specs.Bytes.{are_there}
use Rattle.vsm_model.specs.Causes.{Causes, first_cause}
use Rattle.vsm_model.specs.Services.{obtain, release, whole, store, minimum, maximum}
use Rattle.vsm_model.specs.Obtaining.{place_for, longest, obtain_causes}
use Rattle.vsm_model.specs.Releasing.{is_foreign, is_not_taken, overlaps_extent, overlaps_cells, release_causes, whole_causes}
use Rattle.vsm_model.proofs.Chosen.{refused_for_the_first}
use Rattle.vsm_model.proofs.Least.{greatest_among}
use Rattle.service_laws.specs.GivenBack.{HasNoCells}
use Rattle.service_laws.specs.StorageLowestAddress.{HasNoRoom}
use Rattle.service_laws.specs.StorageFirstCauses.{IsFirstOfObtain, HasForeign, HasFree, IsOfAnArea, IsItsOwn, IsFirstOfRelease, IsFirstOfWhole, IsFirstOfStore, ObtainIsRefusedForTheFirstCause, ReleaseIsRefusedForTheFirstCause, WholeReleaseIsRefusedForTheFirstCause, StoreIsRefusedForTheFirstCause}
use Rattle.service_laws.proofs.Cases.{same_some, none_some, some_from, none_from, held, same_self, belongs_is, in_among, all_pass_witness, none_pass_at, some_pass_witness}
use Rattle.service_laws.proofs.StorageLowest.{nowhere_has_no_room}
use Rattle.service_laws.proofs.Returns.{seen_is}
use Rattle.service_laws.proofs.Allowed.{not_zero}

same_cause : (a b : Cause) → ◌≡◌ {A = Option Cause} (Some a) (Some b) → a ≡ b
same_cause a b e = cc

-- the first cause is this one, or is among the rest
at_cause : (b : Bool) (first cause : Cause) (rows : Causes) (P : Type 0) → first_cause ((b, first) ∷ rows) ≡ Some cause →
    (b ≡ true → first ≡ cause → P) → (b ≡ false → first_cause rows ≡ Some cause → P) → P
at_cause true first cause rows P e here rest = here refl (same_cause first cause e)
at_cause false first cause rows P e here rest = rest refl e

none_left : (cause : Cause) (P : Type 0) → first_cause [] ≡ Some cause → P
none_left cause P e = absurd (none_some cause e)

at_number : (number : ℕ) (cause : Cause) (rows : Causes) (F : Cause → Type 0) →
    first_cause (((number == 131) || (number == 132), UnsupportedSubpool) ∷ (nat_lt 127 number, SubpoolNotAllowed) ∷ rows) ≡ Some cause →
    ((number ≡ 131) ⊎ (number ≡ 132) → F UnsupportedSubpool) → ((127 < number) × (number ≢ 131) × (number ≢ 132) → F SubpoolNotAllowed) →
    (number ≤ 127 → first_cause rows ≡ Some cause → F cause) → F cause
at_number number cause rows F e unsupported other rest =
    at_cause ((number == 131) || (number == 132)) UnsupportedSubpool cause ((nat_lt 127 number, SubpoolNotAllowed) ∷ rows) (F cause) e
    (λ one is. subst F is (unsupported (elim (or_cases (number == 131) (number == 132) one) [
      | inl is ↦ inl (eqb-true number 131 is)
      | inr is ↦ inr (eqb-true number 132 is)
    ])))
    (λ none e. at_cause (nat_lt 127 number) SubpoolNotAllowed cause rows (F cause) e
    (λ above is.
    let parts = or_parts (number == 131) (number == 132) none in
    subst F is (other (ltb-true 127 number above, eqb-false number 131 parts.0, eqb-false number 132 parts.1)))
    (λ private e. rest (ltb-false 127 number private) e))

none_longest : (o : Option ℕ) → is_none o ≡ true → o ≡ None
none_longest None e = refl
none_longest (Some n) e = absurd (true≢false (sym e))

-- without a length that has a place no region has room
no_room : (settings : Settings) (s : State) (o : Obtain) → 0 < minimum o.lengths → minimum o.lengths ≤ maximum o.lengths → longest settings s o ≡ None →
    (count : ℕ) → doublewords (minimum o.lengths) ≤ count → count ≤ doublewords (maximum o.lengths) →
    All (λ r. HasNoRoom r s (seen_or_own s o.number) count (spacing o.boundary)) (regions_for settings (side settings o.location))
no_room settings s o some ordered none count from most =
    let first : ℕ = doublewords (minimum o.lengths) in
    let behind : ℕ = suc (doublewords (maximum o.lengths)) in
    let is = subst (IsGreatestAmong (λ n. not (is_nowhere (place_for settings s o n))) first (behind - first)) none
    (greatest_among (λ n. not (is_nowhere (place_for settings s o n))) first (behind - first)) in
    nowhere_has_no_room s (seen_or_own s o.number) count (spacing o.boundary) (omega (arith, from, some)) (regions_for settings (side settings o.location))
    (not-false (is_nowhere (place_for settings s o count)) (is count from (omega (arith, from, most))))

obtain_refused : (settings : Settings) (names_full : Bool) (s : State) (o : Obtain) (cause : Cause) →
    first_cause (obtain_causes settings names_full s o) ≡ Some cause → IsFirstOfObtain settings names_full s o cause
obtain_refused settings names_full s o cause e =
    let F : Cause → Type 0 = IsFirstOfObtain settings names_full s o in
    let last : Causes = (is_none (longest settings s o), NoStorage) ∷ [] in
    let names : Causes = (names_full, TooManyNames) ∷ last in
    let bad : Bool = (minimum o.lengths == 0) || nat_lt (maximum o.lengths) (minimum o.lengths) in
    at_number o.number cause ((bad, BadLength) ∷ names) F e (λ one. one) (λ other. other) (λ private e.
    at_cause bad BadLength cause names (F cause) e
    (λ is_bad is. subst F is (
      private,
      elim (or_cases (minimum o.lengths == 0) (nat_lt (maximum o.lengths) (minimum o.lengths)) is_bad) [
        | inl zero ↦ inl (eqb-true (minimum o.lengths) 0 zero)
        | inr turned ↦ inr (ltb-true (maximum o.lengths) (minimum o.lengths) turned)
      ],
    )) (λ good e.
    let bounds = or_parts (minimum o.lengths == 0) (nat_lt (maximum o.lengths) (minimum o.lengths)) good in
    let some = not_zero (minimum o.lengths) bounds.0 in
    let ordered = ltb-false (maximum o.lengths) (minimum o.lengths) bounds.1 in
    at_cause names_full TooManyNames cause last (F cause) e
    (λ full is. subst F is (private, some, ordered, full)) (λ room e.
    at_cause (is_none (longest settings s o)) NoStorage cause [] (F cause) e
    (λ none is. subst F is (private, some, ordered, room, no_room settings s o some ordered (none_longest (longest settings s o) none)))
    (λ _ e. none_left cause (F cause) e))))

module _ (settings : Settings) (s : State) (p : Subpool) where
  foreign_is : (d : ℕ) → is_foreign settings s p d ≡ true →
      (in_a_region settings (d / 512) ≡ false) ⊎ ((q : Subpool) × (s.pages (d / 512) ≡ Some q) × (q ≢ p))
  foreign_is d e =
      elim (or_cases (not (in_a_region settings (d / 512))) (holds (λ q. not (same_subpool p q)) (s.pages (d / 512))) e) [
        | inl outside ↦ inl (not-true (in_a_region settings (d / 512)) outside)
        | inr other ↦
            let (q, at, apart) = held (λ q. not (same_subpool p q)) (s.pages (d / 512)) other in
            inr (q, at, λ same. both_ways (same_subpool p q) (not-true (same_subpool p q) apart) (ap (same_subpool p) same ∙ same_self p))
      ]

  foreign_from : (d : ℕ) → (in_a_region settings (d / 512) ≡ false) ⊎ ((q : Subpool) × (s.pages (d / 512) ≡ Some q) × (q ≢ p)) →
      is_foreign settings s p d ≡ true
  foreign_from d (inl outside) =
      or_left (not (in_a_region settings (d / 512))) (holds (λ q. not (same_subpool p q)) (s.pages (d / 512))) (ap not outside)
  foreign_from d (inr (q, is, other)) =
      or_right (not (in_a_region settings (d / 512))) (holds (λ q. not (same_subpool p q)) (s.pages (d / 512)))
      (ap (holds (λ q. not (same_subpool p q))) is
      ∙ ap not (false_from_ne_true (same_subpool p q) (λ own. other (same_some q p (belongs_is p (Some q) own)))))

  has_foreign : (first count : ℕ) → some_pass (is_foreign settings s p) first count ≡ true → HasForeign settings s p first count
  has_foreign first count e = let (d, in_it, at) = some_pass_witness (is_foreign settings s p) first count e in (d, in_it, foreign_is d at)

  none_foreign : (first count : ℕ) → some_pass (is_foreign settings s p) first count ≡ false → HasForeign settings s p first count → ⊥
  none_foreign first count e (d, in_it, foreign) =
      both_ways (is_foreign settings s p d) (none_pass_at (is_foreign settings s p) first count d e in_it) (foreign_from d foreign)

  -- a doubleword that isn't another's, and isn't taken in the subpool
  free_is : (d : ℕ) → is_foreign settings s p d ≡ false → is_not_taken s p d ≡ true → (s.pages (d / 512) ≡ None) ⊎ (s.taken d ≡ false)
  free_is d own e =
      elim (and_cases (holds (same_subpool p) (s.pages (d / 512))) (s.taken d) (not-true _ e)) [
        | inl not_its ↦ inl (none_from (s.pages (d / 512)) (false_from_ne_true (is_some (s.pages (d / 512))) (λ there.
            let (q, at) = some_from (s.pages (d / 512)) there in
            both_ways (is_foreign settings s p d) own
            (foreign_from d (inr (q, at, λ same. both_ways (holds (same_subpool p) (s.pages (d / 512))) not_its (ap (holds (same_subpool p)) at ∙ ap (same_subpool p) same ∙ same_self p)))))))
        | inr idle ↦ inr idle
      ]

  has_free : (first count : ℕ) → some_pass (is_foreign settings s p) first count ≡ false → some_pass (is_not_taken s p) first count ≡ true → HasFree s first count
  has_free first count own e =
      let (d, in_it, at) = some_pass_witness (is_not_taken s p) first count e in
      (d, in_it, free_is d (none_pass_at (is_foreign settings s p) first count d own in_it) at)

  none_free : (first count : ℕ) → some_pass (is_not_taken s p) first count ≡ false → HasFree s first count → ⊥
  none_free first count e (d, in_it, free) =
      let parts = and_parts (holds (same_subpool p) (s.pages (d / 512))) (s.taken d) (not-false _ (none_pass_at (is_not_taken s p) first count d e in_it)) in
      elim free [
        | inl none ↦ none_some p (sym none ∙ belongs_is p (s.pages (d / 512)) parts.0)
        | inr idle ↦ both_ways (s.taken d) idle parts.1
      ]

none_in : {X : Type 0} (f : X → Bool) (xs : List X) → All (λ x. f x ≡ false) xs → list_any f xs ≡ false
none_in f [] h = refl
none_in f (x ∷ xs) h =
    or_from (f x) (list_any f xs) (All-head (λ x. f x ≡ false) x xs h) (none_in f xs (All-tail (λ x. f x ≡ false) x xs h))

-- an extent before or after an area has no byte of it
no_overlap : (address size : ℕ) (pool : CellPool) (x : CellExtent) → (address + size ≤ x.address) ⊎ (x.address + 8 * extent_doublewords pool x.cells ≤ address) →
    overlaps_extent address size pool x ≡ false
no_overlap address size pool x apart =
    false_from_ne_true (overlaps_extent address size pool x) (λ e.
    let parts = and_parts (nat_lt address (x.address + 8 * extent_doublewords pool x.cells)) (nat_lt x.address (address + size)) e in
    let low = ltb-true address (x.address + 8 * extent_doublewords pool x.cells) parts.0 in
    let high = ltb-true x.address (address + size) parts.1 in
    elim apart [
      | inl before ↦ omega (arith, before, high)
      | inr behind ↦ omega (arith, behind, low)
    ])

has_cells : (s : State) (address size : ℕ) → overlaps_cells s address size ≡ true → HasNoCells s.cell_pools address size → ⊥
has_cells s address size e none =
    both_ways (overlaps_cells s address size)
    (none_in (λ row. list_any (overlaps_extent address size row.1) row.1.extents) s.cell_pools
    (λ k row below.
    let pool : CellPool = (slice_index_or s.cell_pools k row).1 in
    none_in (overlaps_extent address size pool) pool.extents (λ i x under. no_overlap address size pool (slice_index_or pool.extents i x) (none k row below i x under)))) e

module _ (settings : Settings) (s : State) (r : Release) (cause : Cause) (area : IsOfAnArea r) (owner : ℕ) (seen : s.sight s.current r.number ≡ Some owner) where
  abbrev its : Subpool
  its = record { number = r.number; owner = owner }

  -- the causes of an area in the subpool that the task sees
  seen_refused : first_cause (
      (some_pass (is_foreign settings s its) (r.address / 8) (doublewords r.length), NotInSubpool)
      ∷ (some_pass (is_not_taken s its) (r.address / 8) (doublewords r.length), OverlapsFree)
      ∷ (overlaps_cells s r.address (8 * doublewords r.length), OverlapsCells)
      ∷ []
      ) ≡ Some cause → IsFirstOfRelease settings s r cause
  seen_refused e =
      let F : Cause → Type 0 = IsFirstOfRelease settings s r in
      let cells : Bool = overlaps_cells s r.address (8 * doublewords r.length) in
      let free : Bool = some_pass (is_not_taken s its) (r.address / 8) (doublewords r.length) in
      let foreign : Bool = some_pass (is_foreign settings s its) (r.address / 8) (doublewords r.length) in
      let two : Causes = (cells, OverlapsCells) ∷ [] in
      let one : Causes = (free, OverlapsFree) ∷ two in
      at_cause foreign NotInSubpool cause one (F cause) e
      (λ is_foreign is. subst F is (area, inr (owner, seen, has_foreign settings s its (r.address / 8) (doublewords r.length) is_foreign))) (λ own e.
      let mine : IsItsOwn settings s r owner = record { seen = seen; none_foreign = none_foreign settings s its (r.address / 8) (doublewords r.length) own } in
      at_cause free OverlapsFree cause two (F cause) e
      (λ is_free is. subst F is (area, (owner, mine), has_free settings s its (r.address / 8) (doublewords r.length) own is_free)) (λ used e.
      at_cause cells OverlapsCells cause [] (F cause) e
      (λ overlaps is. subst F is (
        area,
        (owner, mine),
        none_free settings s its (r.address / 8) (doublewords r.length) used,
        has_cells s r.address (8 * doublewords r.length) overlaps,
      )) (λ _ e. none_left cause (F cause) e)))

release_refused : (settings : Settings) (s : State) (r : Release) (cause : Cause) →
    first_cause (release_causes settings s r) ≡ Some cause → IsFirstOfRelease settings s r cause
release_refused settings s r cause e =
    let F : Cause → Type 0 = IsFirstOfRelease settings s r in
    let rows : Subpool → Causes =
    λ p. (some_pass (is_foreign settings s p) (r.address / 8) (doublewords r.length), NotInSubpool)
    ∷ (some_pass (is_not_taken s p) (r.address / 8) (doublewords r.length), OverlapsFree)
    ∷ (overlaps_cells s r.address (8 * doublewords r.length), OverlapsCells)
    ∷ [] in
    let three : Causes = (not (sees_one s r.number), NotInSubpool) ∷ rows (seen_or_own s r.number) in
    let two : Causes = (not ((r.address % 8) == 0), Misaligned) ∷ three in
    at_number r.number cause ((r.length == 0, BadLength) ∷ two) F e (λ one. one) (λ other. other) (λ private e.
    at_cause (r.length == 0) BadLength cause two (F cause) e
    (λ zero is. subst F is (private, eqb-true r.length 0 zero)) (λ some e.
    at_cause (not ((r.address % 8) == 0)) Misaligned cause three (F cause) e
    (λ off is. subst F is (private, not_zero r.length some, eqb-false (r.address % 8) 0 (not-true ((r.address % 8) == 0) off))) (λ aligned e.
    let area : IsOfAnArea r = record { private = private; some = not_zero r.length some; on_doubleword = eqb-true (r.address % 8) 0 (not-false ((r.address % 8) == 0) aligned) } in
    at_cause (not (sees_one s r.number)) NotInSubpool cause (rows (seen_or_own s r.number)) (F cause) e
    (λ unseen is. subst F is (area, inl (none_from (s.sight s.current r.number) (not-true (sees_one s r.number) unseen)))) (λ sees e.
    let (owner, seen) = some_from (s.sight s.current r.number) (not-false (sees_one s r.number) sees) in
    seen_refused settings s r cause area owner seen (subst (λ p. first_cause (rows p) ≡ Some cause) (seen_is s r.number owner seen) e)))))

whole_refused : (s : State) (number : ℕ) (cause : Cause) → first_cause (whole_causes s number) ≡ Some cause → IsFirstOfWhole s number cause
whole_refused s number cause e =
    let F : Cause → Type 0 = IsFirstOfWhole s number in
    let mine : Bool = (seen_or_own s number).owner == s.current in
    let three : Causes = (not mine, NotOwner) ∷ [] in
    let two : Causes = (not (sees_one s number), NotInSubpool) ∷ three in
    at_number number cause ((number == 0, WholeOfZero) ∷ two) F e (λ one. one) (λ other. other) (λ private e.
    at_cause (number == 0) WholeOfZero cause two (F cause) e
    (λ zero is. subst F is (eqb-true number 0 zero)) (λ some e.
    at_cause (not (sees_one s number)) NotInSubpool cause three (F cause) e
    (λ unseen is. subst F is (not_zero number some, private, none_from (s.sight s.current number) (not-true (sees_one s number) unseen))) (λ sees e.
    let (owner, seen) = some_from (s.sight s.current number) (not-false (sees_one s number) sees) in
    let its : (seen_or_own s number).owner ≡ owner = ap (λ o. unwrap_or o s.current) seen in
    at_cause (not mine) NotOwner cause [] (F cause) e
    (λ others is. subst F is (not_zero number some, private, (owner, seen, λ same. eqb-false (seen_or_own s number).owner s.current (not-true mine others) (its ∙ same))))
    (λ _ e. none_left cause (F cause) e))))

pub obtain_is_refused_for_the_first_cause : ObtainIsRefusedForTheFirstCause
obtain_is_refused_for_the_first_cause settings names_full s o cause e =
    obtain_refused settings names_full s o cause (refused_for_the_first settings names_full s (obtain o) cause e)

pub release_is_refused_for_the_first_cause : ReleaseIsRefusedForTheFirstCause
release_is_refused_for_the_first_cause settings names_full s r cause e =
    release_refused settings s r cause (refused_for_the_first settings names_full s (release r) cause e)

pub whole_release_is_refused_for_the_first_cause : WholeReleaseIsRefusedForTheFirstCause
whole_release_is_refused_for_the_first_cause settings names_full s number cause e =
    whole_refused s number cause (refused_for_the_first settings names_full s (whole number) cause e)

pub store_is_refused_for_the_first_cause : StoreIsRefusedForTheFirstCause
store_is_refused_for_the_first_cause settings names_full s address bytes cause e =
    let F : Cause → Type 0 = IsFirstOfStore s address bytes in
    at_cause (not (are_there s address (length bytes))) NotAssigned cause [] (F cause) (refused_for_the_first settings names_full s (store address bytes) cause e)
    (λ missing is.
    let (a, from, below, at) = all_pass_witness (λ a. is_some (s.bytes a)) address (length bytes) (not-true (are_there s address (length bytes)) missing) in
    subst F is (a, in_among address (length bytes) a from below, none_from (s.bytes a) at))
    (λ _ e. none_left cause (F cause) e)
