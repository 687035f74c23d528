-- The causes of a release, and its plan on the plain machine.
use Rattle.std.proofs.Common.{◌≡◌, ◌≢◌, ℕ, ◌+◌, ◌*◌, ◌/◌, ◌%◌, ◌<◌, ◌≤◌, ◌^◌, Bool, true, false, not, ◌&&◌, ◌==◌, Option, Some, None, is_some, [], ◌∷◌, ◌++◌, sym, ap, ◌∙◌, arith}
use Rattle.std.proofs.lemmas.Bool.{eq-eqb, ne_eqb, and_parts, not-false, not-true}
use Rattle.std.proofs.Math.Logic.{∥∥₁_elim, ∥∥₁_prop}
use Rattle.run_set.specs.Runs.{Run}
use Rattle.vsm_model.specs.declared.Subpool.{Subpool}
use Rattle.vsm_model.specs.declared.causes.Cause.{Cause}
use Rattle.vsm_model.specs.declared.causes.Cause.TheVariants.{BadLength, Misaligned, NotInSubpool, OverlapsFree, OverlapsCells}
use Rattle.vsm_model.specs.declared.limits.Settings.{Settings}
use Rattle.vsm_model.specs.declared.replies.Reply.{Reply}
use Rattle.vsm_model.specs.declared.replies.Reply.TheVariants.{Returned}
use Rattle.vsm_model.specs.declared.services.Release.{Release}
use Rattle.vsm_model.specs.Causes.{Causes, first_cause}
use Rattle.vsm_model.specs.Regions.{among, doublewords}
use Rattle.vsm_model.specs.Registers.{with_registers}
use Rattle.vsm_model.specs.Releasing.{is_foreign, is_not_taken, overlaps_cells, release_causes, without_area}
use Rattle.vsm_model.specs.Search.{some_pass, holds}
use Rattle.vsm_model.specs.Services.{release}
use Rattle.vsm_model.specs.Standing.{Accepted}
use Rattle.vsm_model.specs.State.{State}
use Rattle.vsm_model.specs.Step.{step, answered}
use Rattle.vsm_model.specs.Subpools.{same_subpool, sees_one, seen_or_own}
use Rattle.vsm_model.proofs.Chosen.{Stepped}
use Rattle.service_laws.proofs.Allowed.{release_allowed}
use Rattle.service_laws.proofs.Cases.{among_in, belongs_is}
use Rattle.service_laws.proofs.Kept.{release_leaves_well_formed}
use Rattle.storage_changes.specs.State.{StorageState}
use Rattle.storage_changes.specs.Meaning.{model_of, subpool_of, is_taken, IsSound}
use Rattle.storage_changes.proofs.MeaningLemmas.{named_pages_are_there}
use Rattle.storage_changes.specs.StorageActions.{run_of, emptied_pages, give_back_records, give_back_blanks, register_records}
use Rattle.storage_changes.proofs.GivingBack.{giving_back_leads, blanks_few}
use Rattle.storage_changes.proofs.Idle.{emptied_pages_are_a_run}
use Rattle.storage_changes.proofs.Rows.{none_fresh}
use Rattle.storage_plans.specs.declared.plan.StoragePlan.{StoragePlan}
use Rattle.storage_plans.specs.declared.release.GivenBack.{GivenBack}
use Rattle.storage_plans.specs.Plans.{CarriesOut}
use Rattle.storage_plans.specs.Releases.{area_causes, IsGivenBack}
use Rattle.storage_plans.proofs.Assigning.{none_assigned}
use Rattle.storage_plans.proofs.Carried.{carries_out, no_registers, register_and}
use Rattle.storage_plans.proofs.AskedLengths.{skip, stop, number_allowed}
use Rattle.storage_plans.proofs.OwnedAreas.{not_one}

-- the first cause of an area
module _ (settings : Settings) (s : State) (p : Subpool) (d count : ℕ) where
  abbrev foreign : Bool
  foreign = some_pass (is_foreign settings s p) d count

  abbrev not_taken : Bool
  not_taken = some_pass (is_not_taken s p) d count

  abbrev on_cells : Bool
  on_cells = overlaps_cells s (8 * d) (8 * count)

  abbrev cell_rows : Causes
  cell_rows = (on_cells, OverlapsCells) ∷ []

  abbrev free_rows : Causes
  free_rows = (not_taken, OverlapsFree) ∷ cell_rows

  pub is_foreign_first : foreign ≡ true → first_cause (area_causes settings s p d count) ≡ Some NotInSubpool
  is_foreign_first e = stop foreign NotInSubpool free_rows e

  pub is_free_first : foreign ≡ false → not_taken ≡ true → first_cause (area_causes settings s p d count) ≡ Some OverlapsFree
  is_free_first e f = skip foreign NotInSubpool free_rows e ∙ stop not_taken OverlapsFree cell_rows f

  behind_free : foreign ≡ false → not_taken ≡ false → first_cause (area_causes settings s p d count) ≡ first_cause cell_rows
  behind_free e f = skip foreign NotInSubpool free_rows e ∙ skip not_taken OverlapsFree cell_rows f

  is_on_cells_first : foreign ≡ false → not_taken ≡ false → on_cells ≡ true → first_cause (area_causes settings s p d count) ≡ Some OverlapsCells
  is_on_cells_first e f g = behind_free e f ∙ stop on_cells OverlapsCells [] g

  -- so it's the cause that a look at the cells names
  pub caused : (cause : Cause) → foreign ≡ false → not_taken ≡ false → (cause ≡ OverlapsCells) × (on_cells ≡ true) → first_cause (area_causes settings s p d count) ≡ Some cause
  caused cause e f is = is_on_cells_first e f is.1 ∙ ap Some (sym is.0)

  pub has_no_cause : foreign ≡ false → not_taken ≡ false → on_cells ≡ false → first_cause (area_causes settings s p d count) ≡ None
  has_no_cause e f g = behind_free e f ∙ skip on_cells OverlapsCells [] g

module _ (settings : Settings) (m : StorageState) (r : Release) where
  abbrev s : State
  s = model_of m

  -- the causes of its area, when cell pools are looked at from this address on
  abbrev rows_at : ℕ → Causes
  rows_at address =
      (some_pass (is_foreign settings s (seen_or_own s r.number)) (r.address / 8) (doublewords r.length), NotInSubpool)
      ∷ (some_pass (is_not_taken s (seen_or_own s r.number)) (r.address / 8) (doublewords r.length), OverlapsFree)
      ∷ (overlaps_cells s address (8 * doublewords r.length), OverlapsCells)
      ∷ []

  abbrev area_rows : Causes
  area_rows = rows_at r.address

  abbrev sight_rows : Causes
  sight_rows = (not (sees_one s r.number), NotInSubpool) ∷ area_rows

  abbrev address_rows : Causes
  address_rows = (not ((r.address % 8) == 0), Misaligned) ∷ sight_rows

  own : (number owner : ℕ) → number ≡ r.number → s.sight s.current number ≡ Some owner → record { number = number; owner = owner } ≡ seen_or_own s r.number
  own number owner is e = cc

  -- a release of an area in a subpool that is seen has the first cause of the area
  pub as_of_the_area : (number owner : ℕ) (area : Run) → r.number ≤ 127 → r.length ≢ 0 → r.address % 8 ≡ 0 → number ≡ r.number → s.sight s.current number ≡ Some owner →
      area.start ≡ r.address / 8 → area.len ≡ doublewords r.length →
      first_cause (release_causes settings s r) ≡ first_cause (area_causes settings s (record { number = number; owner = owner }) area.start area.len)
  as_of_the_area number owner area allowed some whole is seen at long =
      number_allowed r.number ((r.length == 0, BadLength) ∷ address_rows) allowed
      ∙ skip (r.length == 0) BadLength address_rows (ne_eqb r.length 0 some)
      ∙ skip (not ((r.address % 8) == 0)) Misaligned sight_rows (ap not (eq-eqb (r.address % 8) 0 whole))
      ∙ skip (not (sees_one s r.number)) NotInSubpool area_rows (ap not (ap is_some (ap (s.sight s.current) (sym is) ∙ seen)))
      ∙ ap (λ address. first_cause (rows_at address)) (let e : r.address ≡ 8 * (r.address / 8) = omega (arith, whole) in e)
      ∙ (λ i. first_cause (area_causes settings s (sym (own number owner is seen) i) (sym at i) (sym long i)))

  -- an area that no cause keeps is given back by the plan
  module _ (names_full : Bool) (found : GivenBack) (plan : StoragePlan) (sound : IsSound settings m) (none : first_cause (release_causes settings s r) ≡ None)
      (its : found.subpool ≡ seen_or_own s r.number) (at : found.area ≡ run_of (r.address / 8) (doublewords r.length)) (some : 0 < found.area.len)
      (high : found.area.start + found.area.len ≤ 2 ^ 29) (given : IsGivenBack m found plan) where
    abbrev p : Subpool
    p = found.subpool

    abbrev d : ℕ
    d = found.area.start

    abbrev count : ℕ
    count = found.area.len

    abbrev after : State
    after = with_registers (without_area s p d count) ((15, 0) ∷ [])

    accepted : step settings names_full s (release r) ≡ Accepted after (Returned 0)
    accepted =
        let outcome : State → Stepped = λ t. Accepted (with_registers t ((15, 0) ∷ [])) (Returned 0) in
        ap (answered settings s (release r)) none
        ∙ (λ i. outcome (without_area s (sym its i) (sym at i).start (sym at i).len))

    taken : (k : ℕ) → among d count k ≡ true → (m.subpools.pages p (k / 512) ≡ true) × (m.subpools.free p k ≡ false)
    taken k e =
        let used : some_pass (is_not_taken s p) d count ≡ false =
        (λ i. some_pass (is_not_taken s (its i)) (at i).start (at i).len) ∙ (release_allowed settings s r none).used in
        let bounds = among_in d count k e in
        let owner : Option Subpool = subpool_of m.subpools (k / 512) in
        let both = not-false (holds (same_subpool p) owner && is_taken m.subpools owner k) (not_one (is_not_taken s p) d count k used bounds.0 bounds.1) in
        let parts = and_parts (holds (same_subpool p) owner) (is_taken m.subpools owner k) both in
        let is = belongs_is p owner parts.0 in (
          (named_pages_are_there m.subpools (k / 512)).0 p is,
          not-true (m.subpools.free p k) (ap (λ o. is_taken m.subpools o k) (sym is) ∙ parts.1),
        )

    pub given_back : CarriesOut settings names_full m (release r) plan
    given_back =
        let pages : Run = emptied_pages m.subpools p d count in
        let idle = emptied_pages_are_a_run settings m p d count sound some high taken in
        let outcome : Reply → Stepped = λ reply. Accepted after reply in
        carries_out settings names_full m (release r) plan (give_back_records p d count pages.start pages.len ++ register_records m ((15, 0) ∷ [])) (give_back_blanks pages.len) (run_of 0 0) after
        given.emptied given.records given.blanks given.fresh (accepted ∙ ap outcome (sym given.reply))
        (giving_back_leads settings m p d count pages.start pages.len ((15, 0) ∷ []) sound (register_and 15 0 [] (omega arith) no_registers) some high idle.1 taken idle.0
        (release_leaves_well_formed settings names_full s after r (Returned 0) sound.well_formed accepted))
        (blanks_few pages.len).1 (omega arith) (none_fresh m) (none_assigned _)

  pub is_given_back : (names_full : Bool) (found : GivenBack) (plan : StoragePlan) → ∥ IsSound settings m ∥₁ → first_cause (release_causes settings s r) ≡ None →
      found.subpool ≡ seen_or_own s r.number → found.area ≡ run_of (r.address / 8) (doublewords r.length) → 0 < found.area.len → found.area.start + found.area.len ≤ 2 ^ 29 →
      IsGivenBack m found plan → ∥ CarriesOut settings names_full m (release r) plan ∥₁
  is_given_back names_full found plan sound none its at some high given =
      ∥∥₁_elim sound ∥∥₁_prop (λ h. ∣ given_back names_full found plan h none its at some high given ∣₁)
