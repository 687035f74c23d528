-- An accepted obtain, release or store leaves a well-formed state.
use Rattle.std.proofs.Common.{◌≡◌, ℕ, zero, suc, ◌+◌, ◌*◌, ◌/◌, ◌%◌, ◌<◌, ◌^◌, Bool, true, false, nat_lt, Option, Some, None, List, [], ◌∷◌, ◌++◌, length, slice_index_or, if◌then◌else◌, refl, sym, subst, arith, inl, inr, true≢false}
use Rattle.std.specs.List.{list_any}
use Rattle.std.proofs.lemmas.Bool.{and_from, or_parts, both_ways, false_from_ne_true, lt-ltb}
use Rattle.vsm_model.specs.declared.limits.Settings.{Settings}
use Rattle.vsm_model.specs.declared.replies.Reply.{Reply}
use Rattle.vsm_model.specs.declared.replies.Reply.TheVariants.{Obtained, Returned, Stored}
use Rattle.vsm_model.specs.declared.services.Lengths.{Lengths}
use Rattle.vsm_model.specs.declared.services.Lengths.TheVariants.{Fixed, Variable}
use Rattle.vsm_model.specs.declared.services.Obtain.{Obtain}
use Rattle.vsm_model.specs.Names.{GivesAddress}
use Rattle.vsm_model.specs.Regions.{among, doublewords, regions_for, side}
use Rattle.vsm_model.specs.CellPools.{CellPool, CellExtent, extent_doublewords}
use Rattle.vsm_model.specs.State.{State}
use Rattle.vsm_model.specs.Subpools.{sees_one, seen_or_own, with_own, with_subpool, same_subpool}
use Rattle.vsm_model.specs.Areas.{Place, Inside, Fresh, Nowhere, address_of, spacing}
use Rattle.vsm_model.specs.Registers.{length_register, named_register, registers_set}
use Rattle.vsm_model.specs.Services.{obtain, release, whole, store}
use Rattle.vsm_model.specs.Obtaining.{place_for}
use Rattle.vsm_model.specs.Releasing.{overlaps_extent, without_area, without_storage}
use Rattle.vsm_model.specs.WellFormed.{IsWellFormed}
use Rattle.vsm_model.proofs.Chosen.{accepted_has_its_effect, accepted_state, accepted_reply, no_cause}
use Rattle.vsm_model.proofs.Registered.{AreWords, registers_leave_well_formed, register_leaves_well_formed}
use Rattle.service_laws.specs.StorageKept.{IsRegister, OneNameTooManyIsGivenNoAddress, ObtainLeavesWellFormed, ReleaseLeavesWellFormed, WholeReleaseLeavesWellFormed, StoreLeavesWellFormed}
use Rattle.service_laws.proofs.Cases.{among_in}
use Rattle.service_laws.proofs.Places.{IsOf, Goes, regions_are, place_goes, place_in_words}
use Rattle.service_laws.proofs.Changes.{own_kept, own_is_there, area_kept, released_kept, emptied_kept, stored_kept}
use Rattle.service_laws.proofs.Allowed.{obtain_allowed, obtain_leaves, release_allowed, store_allowed}

both_words : (xs ys : List (ℕ × ℕ)) → AreWords xs → AreWords ys → AreWords (xs ++ ys)
both_words [] ys f g = g
both_words (x ∷ xs) ys f g = (f.0, f.1, both_words xs ys f.2 g)

length_words : (lengths : Lengths) (given : ℕ) → given < 2 ^ 32 → AreWords (length_register lengths given)
length_words (Fixed n) given small = tt
length_words (Variable most least) given small = (omega arith, small, tt)

named_words : (named : Option ℕ) (word : ℕ) → IsRegister named → word < 2 ^ 32 → AreWords (named_register named word)
named_words None word is small = tt
named_words (Some register) word is small = (is register refl, small, tt)

area_words : (o : Obtain) (address given : ℕ) → IsRegister o.register → address < 2 ^ 32 → given < 2 ^ 32 →
    AreWords (registers_set (obtain o) (Obtained address given))
area_words o address given is small short = (
  omega arith,
  omega arith,
  (omega arith, small, both_words (length_register o.lengths given) (named_register o.register address) (length_words o.lengths given short) (named_words o.register address is small)),
)

-- a place of the state is one of that in which the subpool exists
goes_on : (settings : Settings) (s : State) (n count boundary : ℕ) (goes : Place) → Goes (IsOf settings) s (seen_or_own s n) count boundary goes →
    Goes (IsOf settings) (with_own s n) (seen_or_own s n) count boundary goes
goes_on settings s n count boundary goes h = either (sees_one s n) goes h where
  either : (b : Bool) (goes : Place) → Goes (IsOf settings) s (seen_or_own s n) count boundary goes →
      Goes (IsOf settings) (if b then s else with_subpool s n s.current) (seen_or_own s n) count boundary goes
  either true goes h = h
  either false (Inside d) h = h
  either false (Fresh page) h = h
  either false Nowhere h = h

pub obtain_leaves_well_formed : ObtainLeavesWellFormed
obtain_leaves_well_formed settings names_full s t o reply valid is w e =
    elim (accepted_has_its_effect settings names_full s t (obtain o) reply e) [
      | inl done ↦
          let may = obtain_allowed settings names_full s o done.0 in
          let goes : Place = place_for settings s o may.count in
          let its = seen_or_own s o.number in
          let goes_in = place_goes (IsOf settings) s its may.count (spacing o.boundary) (regions_for settings (side settings o.location)) (regions_are settings (side settings o.location)) in
          let some : 0 < may.count = (let least = may.least in let min = may.some in omega (arith, least, min)) in
          let words = place_in_words settings s its may.count (spacing o.boundary) goes valid some goes_in may.has_place in
          subst (IsWellFormed settings) (sym (obtain_leaves settings s t o reply may.count may.found done.1).1)
          (registers_leave_well_formed settings (registers_set (obtain o) (Obtained (address_of goes) (8 * may.count))) _ (area_words o (address_of goes) (8 * may.count) is words.0 words.1)
          (area_kept settings (with_own s o.number) (own_kept settings s w o.number may.private) its (own_is_there settings s w o.number) may.count (spacing o.boundary) goes
          (goes_on settings s o.number may.count (spacing o.boundary) goes goes_in)))
      | inr four ↦ subst (IsWellFormed settings) (sym four.2) (register_leaves_well_formed s 15 4 settings (omega arith) (omega arith) w)
    ]

-- if none of a list passes, each doesn't
pub none_of : {X : Type 0} (f : X → Bool) (xs : List X) (k : ℕ) (d : X) → list_any f xs ≡ false → k < length xs → f (slice_index_or xs k d) ≡ false
none_of f [] k d e below = absurd (omega (arith, below))
none_of f (x ∷ xs) zero d e below = (or_parts (f x) (list_any f xs) e).0
none_of f (x ∷ xs) (suc k) d e below = none_of f xs k d (or_parts (f x) (list_any f xs) e).1 (omega (arith, below))

-- an extent that has no byte of an area has no doubleword of it
pub apart_in_doublewords : (address count : ℕ) (pool : CellPool) (x : CellExtent) → address % 8 ≡ 0 → x.address % 8 ≡ 0 →
    overlaps_extent address (8 * count) pool x ≡ false → (j : ℕ) → among (x.address / 8) (extent_doublewords pool x.cells) j ≡ true → among (address / 8) count j ≡ false
apart_in_doublewords address count pool x aligned begins apart j own =
    false_from_ne_true (among (address / 8) count j) (λ given.
    let here = among_in (x.address / 8) (extent_doublewords pool x.cells) j own in
    let there = among_in (address / 8) count j given in
    let low = here.0 in
    let high = here.1 in
    let from = there.0 in
    let below = there.1 in
    both_ways (overlaps_extent address (8 * count) pool x) apart
    (and_from (nat_lt address (x.address + 8 * extent_doublewords pool x.cells)) (nat_lt x.address (address + 8 * count))
    (lt-ltb address (x.address + 8 * extent_doublewords pool x.cells) (omega (arith, aligned, begins, low, high, from, below)))
    (lt-ltb x.address (address + 8 * count) (omega (arith, aligned, begins, low, high, from, below)))))

pub release_leaves_well_formed : ReleaseLeavesWellFormed
release_leaves_well_formed settings names_full s t r reply w e =
    elim (accepted_has_its_effect settings names_full s t (release r) reply e) [
      | inl done ↦
          let may = release_allowed settings s r done.0 in
          let its = seen_or_own s r.number in
          let left : State = without_area s its (r.address / 8) (doublewords r.length) in
          subst (IsWellFormed settings) (accepted_state _ t (Returned 0) reply done.1)
          (register_leaves_well_formed left 15 0 settings (omega arith) (omega arith)
          (released_kept settings s w its (r.address / 8) (doublewords r.length) may.used
          (λ k row below i x under.
          let pool : CellPool = (slice_index_or s.cell_pools k row).1 in
          apart_in_doublewords r.address (doublewords r.length) pool (slice_index_or pool.extents i x) may.aligned
          ((w.cell_pools.each k row below).in_subpool i x under).on_doubleword
          (none_of (overlaps_extent r.address (8 * doublewords r.length) pool) pool.extents i x (none_of (λ row. list_any (overlaps_extent r.address (8 * doublewords r.length) row.1) row.1.extents) s.cell_pools k row may.apart below) under))))
      | inr four ↦ subst (IsWellFormed settings) (sym four.2) (register_leaves_well_formed s 15 4 settings (omega arith) (omega arith) w)
    ]

pub whole_release_leaves_well_formed : WholeReleaseLeavesWellFormed
whole_release_leaves_well_formed settings names_full s t number reply w e =
    let done = no_cause settings names_full s t (whole number) reply refl e in
    subst (IsWellFormed settings) (accepted_state _ t (Returned 0) reply done.1)
    (register_leaves_well_formed (without_storage s (same_subpool (seen_or_own s number))) 15 0 settings (omega arith) (omega arith)
    (emptied_kept settings s w (seen_or_own s number)))

pub store_leaves_well_formed : StoreLeavesWellFormed
store_leaves_well_formed settings names_full s t address bytes reply are w e =
    let done = no_cause settings names_full s t (store address bytes) reply refl e in
    subst (IsWellFormed settings) (accepted_state _ t _ reply done.1)
    (stored_kept settings s w address bytes (store_allowed s address bytes done.0) are)

no_address_of : (reply : Reply) (address code : ℕ) → GivesAddress reply address → Returned code ≡ reply → ⊥
no_address_of reply address code gives is = subst (λ r. GivesAddress r address) (sym is) gives

pub one_name_too_many_is_given_no_address : OneNameTooManyIsGivenNoAddress
one_name_too_many_is_given_no_address settings s t reply address gives = (
  λ o e. elim (accepted_has_its_effect settings true s t (obtain o) reply e) [
    | inl done ↦ true≢false (obtain_allowed settings true s o done.0).room
    | inr four ↦ no_address_of reply address 4 gives (sym four.1)
  ],
  λ r e. elim (accepted_has_its_effect settings true s t (release r) reply e) [
    | inl done ↦ no_address_of reply address 0 gives (accepted_reply _ t (Returned 0) reply done.1)
    | inr four ↦ no_address_of reply address 4 gives (sym four.1)
  ],
  λ number e. no_address_of reply address 0 gives (accepted_reply _ t (Returned 0) reply (no_cause settings true s t (whole number) reply refl e).1),
  λ at bytes e. subst (λ r. GivesAddress r address) (sym (accepted_reply _ t Stored reply (no_cause settings true s t (store at bytes) reply refl e).1)) gives,
)
