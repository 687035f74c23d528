-- What was found of a storage is what is taken by the definition.
use Rattle.std.proofs.Common.{◌≡◌, ℕ, ◌/◌, ◌^◌, Bool, true, false, not, if◌then◌else◌, Option, Some, None, Result, Ok, Err, List, [], ◌∷◌, flat_map, reverse, refl, sym, ap, ◌∙◌, arith}
use Rattle.std.proofs.Props.{props}
use Rattle.std.specs.Prelude.{IfOk}
use mathlib.Core.Logic.{∥∥₁_elim}
use Rattle.macro_statements.specs.Requests.{Act}
use Rattle.vsm_model.specs.declared.Subpool.{Subpool}
use Rattle.vsm_model.specs.declared.limits.Settings.{Settings}
use Rattle.vsm_model.specs.Search.{holds}
use Rattle.vsm_model.specs.State.{State}
use Rattle.vsm_model.specs.Subpools.{same_subpool}
use Rattle.service_laws.proofs.Cases.{same_is}
use Rattle.storage_changes.specs.Meaning.{all_subpools, subpool_of, is_taken as is_taken_in}
use Rattle.storage_changes.proofs.Cases.{same-self}
use Rattle.storage_changes.proofs.FirstLemmas.{first-passes}
use Rattle.storage_changes.proofs.MapOrder.{in_order}
use Rattle.storage_core.specs.declared.storage.Storage.{Storage}
use Rattle.storage_core.specs.Meaning.{state_in_place, state_of}
use Rattle.subpool_storage.specs.Order.{subpools_in_order}
use Rattle.subpool_storage.specs.Subpools.{is_there}
use Rattle.explain_areas.specs.Ahead.{AreLinesOf}
use Rattle.explain_areas.specs.Areas.{areas_of}
use Rattle.explain_standing.specs.NumberMaps.{number_in}
use Rattle.explain_standing.specs.Since.{acts, machine_after, since, storage_after, taken_since}
use Rattle.explain_areas.specs.Since.{line_of, taken_areas}
use Rattle.explain_standing.specs.declared.number_map.NumberMap.{NumberMap}
use Rattle.explain_areas.specs.declared.parts.LineArea.{LineArea}
use Rattle.explain_areas.proofs.Bounds.{both_ways, free_in_page, is_false, same_to}

both_none : (b : Bool) (o : Option ℕ) → o ≡ None → (if b then o else None) ≡ None
both_none true o e = e
both_none false o e = refl

module _ (s : Storage) (p : Subpool) (k : ℕ) where
  its_owner : (state_in_place s).subpools.pages p k ≡ true → subpool_of (state_in_place s).subpools k ≡ Some p
  its_owner own = ∥∥₁_elim s.held.sound (hlevel props) (λ sound. sound.named p k own)

  is_there_too : (state_in_place s).subpools.pages p k ≡ true → is_there (state_in_place s).subpools p ≡ true
  is_there_too own = ∥∥₁_elim s.held.sound (hlevel props) (λ sound. sound.well_formed.pages.has_subpool k p (sound.named p k own))

  not_its : (state_in_place s).subpools.pages p k ≡ false → holds (same_subpool p) (subpool_of (state_in_place s).subpools k) ≡ false
  not_its none = go (subpool_of (state_in_place s).subpools k) refl where
    go : (o : Option Subpool) → subpool_of (state_in_place s).subpools k ≡ o → holds (same_subpool p) o ≡ false
    go None e = refl
    go (Some q) e =
        is_false (same_subpool p q)
        (λ same. both_ways ((state_in_place s).subpools.pages p k)
        (ap (λ r. (state_in_place s).subpools.pages r k) (sym (same_is p q same))
        ∙ first-passes Subpool (λ r. (state_in_place s).subpools.pages r k) all_subpools q e) none)

-- A doubleword that isn't taken has no line.
not_taken : (settings : Settings) (xs : List (ℕ × Act)) (d : ℕ) → (storage_after settings (acts xs)).taken d ≡ false → taken_since settings xs d ≡ None
not_taken settings [] d e = refl
not_taken settings (x ∷ older) d e = ap (λ b. since b ((storage_after settings (acts older)).taken d) x.0 (taken_since settings older d)) e

module _ (settings : Settings) (xs : List (ℕ × Act)) (lines : NumberMap) (s : Storage) (is : state_of s ≡ storage_after settings (acts xs))
    (known : (d : ℕ) → (machine_after settings xs).storage.taken d ≡ true → number_in lines d ≡ taken_since settings xs d) where
  abbrev pub its_line : Subpool → ℕ → Option ℕ
  its_line = line_of settings xs

  -- its line by the storage in place
  by_place : (p : Subpool) (d : ℕ) → its_line p d ≡ (if holds (same_subpool p) (subpool_of (state_in_place s).subpools (d / 512)) then taken_since settings xs d else None)
  by_place p d = ap (λ (u : State). if holds (same_subpool p) (u.pages (d / 512)) then taken_since settings xs d else None) (sym is)

  taken_is : (p : Subpool) (d : ℕ) → (state_in_place s).subpools.pages p (d / 512) ≡ true →
      (storage_after settings (acts xs)).taken d ≡ not ((state_in_place s).subpools.free p d)
  taken_is p d own =
      ap (λ (u : State). u.taken d) (sym is) ∙ ap (λ o. is_taken_in (state_in_place s).subpools o d) (its_owner s p (d / 512) own)

  pub are_lines : (p : Subpool) → AreLinesOf lines s p (its_line p)
  are_lines p = record {
    elsewhere = λ d none. by_place p d ∙ ap (λ b. if b then taken_since settings xs d else None) (not_its s p (d / 512) none);
    free = λ d free.
        both_none (holds (same_subpool p) ((storage_after settings (acts xs)).pages (d / 512))) (taken_since settings xs d)
        (not_taken settings xs d (taken_is p d (free_in_page s p d free) ∙ ap (λ b. not b) free));
    taken = λ d own free.
        by_place p d ∙ ap (λ o. if holds (same_subpool p) o then taken_since settings xs d else None) (its_owner s p (d / 512) own)
        ∙ ap (λ b. if b then taken_since settings xs d else None) (same-self p)
        ∙ sym (known d (taken_is p d own ∙ ap (λ b. not b) free));
  }

  none_there : (number owner : ℕ) → is_there (state_in_place s).subpools (record { number = number; owner = owner }) ≡ false →
      areas_of (record { number = number; owner = owner }) (its_line (record { number = number; owner = owner })) ≡ []
  unfolding areas_of
  none_there number owner none =
      let p : Subpool = record { number = number; owner = owner } in
      ap reverse
      (same_to p (its_line p) [] 0 (2 ^ 29) (omega arith)
      (λ d from to. (are_lines p).elsewhere d
      (is_false ((state_in_place s).subpools.pages p (d / 512)) (λ own. both_ways (is_there (state_in_place s).subpools p) (is_there_too s p (d / 512) own) none))))

  -- The areas of the subpools that exist are all areas.
  pub all_areas : flat_map (λ p. areas_of p (its_line p)) (subpools_in_order (state_in_place s).subpools) ≡ taken_areas settings xs
  all_areas =
      sym (in_order (state_in_place s).subpools (λ number owner. areas_of (record { number = number; owner = owner }) (its_line (record { number = number; owner = owner }))) none_there 128 64 refl refl)

  -- and so they are what is found of the subpools.
  pub left_are : {V E : Type 0} (r : Result V E) (items : V → List LineArea) →
      IfOk r (λ v. (f : Subpool → ℕ → Option ℕ) → ((p : Subpool) → AreLinesOf lines s p (f p)) → items v ≡ flat_map (λ p. areas_of p (f p)) (subpools_in_order (state_in_place s).subpools)) →
      IfOk r (λ v. items v ≡ taken_areas settings xs)
  left_are (Ok v) items found = found its_line are_lines ∙ all_areas
  left_are (Err e) items found = tt
