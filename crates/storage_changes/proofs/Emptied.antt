-- What holds of the pages that an area empties, and what the storage is without them.
use Rattle.std.proofs.Common.{◌≡◌, ℕ, Bool, true, false, not, ◌&&◌, if◌then◌else◌, Option, Some, None, is_some, refl, sym, ◌∙◌, ap, subst, true≢false}
use Rattle.std.specs.Prelude.{◌/◌}
use Rattle.std.proofs.lemmas.Bool.{cond-true, cond-false, and_right, and_parts, and_from, false_from_ne_true, true_from_ne_false, not-false}
use Rattle.run_set.specs.Runs.{Run, inside}
use Rattle.vsm_model.specs.declared.Subpool.{Subpool}
use Rattle.vsm_model.specs.declared.limits.Settings.{Settings}
use Rattle.vsm_model.specs.Regions.{in_a_region}
use Rattle.vsm_model.specs.Search.{holds}
use Rattle.vsm_model.specs.Subpools.{same_subpool}
use Rattle.vsm_model.specs.Releasing.{is_idle, without_taken, without_area}
use Rattle.storage_changes.specs.State.{StorageState}
use Rattle.storage_changes.specs.Meaning.{model_of, subpool_of, is_taken, IsSound}
use Rattle.storage_changes.proofs.MeaningLemmas.{named_pages_are_there, left_pages_are_nobodys}
use Rattle.storage_changes.specs.StorageActions.{run_of}
use Rattle.storage_changes.specs.Leads.{AreIdle}
use Rattle.storage_changes.proofs.Cases.{same-is, same-self}
use Rattle.storage_changes.proofs.ActionCases.{belongs_is, is_idle_at}
use Rattle.storage_changes.proofs.Goes.{at}
use Rattle.storage_changes.proofs.Rows.{Stands}

abbrev pub without_pages : StorageState → Subpool → Run → (Subpool → ℕ → Bool) → StorageState
without_pages m p run f =
    record m {
      subpools = record m.subpools { pages = λ q k. if same_subpool q p && inside k run then false else m.subpools.pages q k; free = f };
      unassigned = λ k. if inside k run then true else m.unassigned k;
      bytes = λ a. if inside (a / 4096) run then None else m.bytes a;
    }

module _ (settings : Settings) (m : StorageState) (p : Subpool) (d count page n : ℕ) (sound : IsSound settings m)
    (held : (k : ℕ) → inside k (run_of d count) ≡ true → (m.subpools.pages p (k / 512) ≡ true) × (m.subpools.free p k ≡ false))
    (idle : AreIdle (model_of m) p d count (run_of page n)) where
  abbrev run : Run
  run = run_of page n

  abbrev area : Run
  area = run_of d count

  abbrev taken : ℕ → Bool
  taken k = is_taken m.subpools (subpool_of m.subpools (k / 512)) k

  -- a page that leaves belongs to the subpool,
  pub its : (j : ℕ) → inside j run ≡ true → subpool_of m.subpools j ≡ Some p
  its j own =
      belongs_is p (subpool_of m.subpools j)
      (and_parts (holds (same_subpool p) (subpool_of m.subpools j)) (is_idle (without_taken (model_of m) d count).taken j) (sym (idle j) ∙ own)).0

  pub had : (j : ℕ) → inside j run ≡ true → m.subpools.pages p j ≡ true
  had j own = (named_pages_are_there m.subpools j).0 p (its j own)

  -- has no doubleword that is taken except by the area,
  not_kept : (k : ℕ) → inside (k / 512) run ≡ true → (not (inside k area) && taken k) ≡ false
  not_kept k own =
      is_idle_at (without_taken (model_of m) d count).taken (k / 512) k
      (and_parts (holds (same_subpool p) (subpool_of m.subpools (k / 512))) (is_idle (without_taken (model_of m) d count).taken (k / 512)) (sym (idle (k / 512)) ∙ own)).1
      refl

  pub free_beside : (k : ℕ) → inside (k / 512) run ≡ true → inside k area ≡ false → m.subpools.free p k ≡ true
  free_beside k own other =
      not-false (m.subpools.free p k)
      (ap (λ o. is_taken m.subpools o k) (sym (its (k / 512) own)) ∙ ap (λ b. not b && taken k) (sym other) ∙ not_kept k own)

  -- and has one of the area's
  pub touched : (j : ℕ) → inside j run ≡ true → (k : ℕ) × (inside k area ≡ true) × (k / 512 ≡ j)
  touched j own =
      let (k, at, is) = sound.well_formed.pages.has_taken j p (its j own) in
      let there : inside (k / 512) run ≡ true = subst (λ i. inside i run ≡ true) (sym at) own in
      (k, true_from_ne_false (inside k area) (λ other. true≢false (sym is ∙ ap (λ b. not b && taken k) (sym other) ∙ not_kept k there)), at)

  module _ (f : Subpool → ℕ → Bool) (others : (q : Subpool) (k : ℕ) → same_subpool q p ≡ false → f q k ≡ m.subpools.free q k)
      (given : (k : ℕ) → inside k area ≡ true → inside (k / 512) run ≡ false → f p k ≡ true) (gone : (k : ℕ) → inside (k / 512) run ≡ true → f p k ≡ false)
      (kept : (k : ℕ) → inside k area ≡ false → inside (k / 512) run ≡ false → f p k ≡ m.subpools.free p k) where
    abbrev after : StorageState
    after = without_pages m p run f

    pages_in : (q : Subpool) (k : ℕ) (b : Bool) → same_subpool q p ≡ b → inside k run ≡ true → (if b && inside k run then false else m.subpools.pages q k) ≡ false
    pages_in q k true same own = cond-true (inside k run) false (m.subpools.pages q k) own
    pages_in q k false other own =
        false_from_ne_true (m.subpools.pages q k)
        (λ e. true≢false (sym (same-self p) ∙ ap (λ r. same_subpool r p) (sound.apart p q k (had k own) e) ∙ other))

    pages_out : (q : Subpool) (k : ℕ) → inside k run ≡ false → after.subpools.pages q k ≡ m.subpools.pages q k
    pages_out q k other = cond-false (same_subpool q p && inside k run) false (m.subpools.pages q k) (and_right (same_subpool q p) (inside k run) other)

    pages_were : (q : Subpool) (k : ℕ) (b : Bool) → (if b then false else m.subpools.pages q k) ≡ true → m.subpools.pages q k ≡ true
    pages_were q k true e = absurd (true≢false (sym e))
    pages_were q k false e = e

    named_lead : (k : ℕ) → subpool_of after.subpools k ≡ (if inside k run then None else subpool_of m.subpools k)
    named_lead k = left_pages_are_nobodys m.subpools p run sound.apart had k

    named_in : (k : ℕ) → inside k run ≡ true → subpool_of after.subpools k ≡ None
    named_in k own = named_lead k ∙ cond-true (inside k run) None (subpool_of m.subpools k) own

    named_out : (k : ℕ) → inside k run ≡ false → subpool_of after.subpools k ≡ subpool_of m.subpools k
    named_out k other = named_lead k ∙ cond-false (inside k run) None (subpool_of m.subpools k) other

    free_kept : (q : Subpool) (k : ℕ) (b : Bool) → same_subpool q p ≡ b → inside k area ≡ false → inside (k / 512) run ≡ false → f q k ≡ m.subpools.free q k
    free_kept q k true same beside other =
        let is = same-is q p same in
        ap (λ r. f r k) is ∙ kept k beside other ∙ ap (λ r. m.subpools.free r k) (sym is)
    free_kept q k false not_same beside other = others q k not_same

    taken_kept : (k : ℕ) (o : Option Subpool) → inside k area ≡ false → inside (k / 512) run ≡ false → is_taken after.subpools o k ≡ is_taken m.subpools o k
    taken_kept k None beside other = refl
    taken_kept k (Some q) beside other = ap not (free_kept q k (same_subpool q p) refl beside other)

    taken_out : (k : ℕ) (b : Bool) → inside k area ≡ b → inside (k / 512) run ≡ false → is_taken after.subpools (subpool_of m.subpools (k / 512)) k ≡ (not b && taken k)
    taken_out k true own other =
        ap (λ o. is_taken after.subpools o k) (sound.named p (k / 512) (held k own).0) ∙ ap not (given k own other)
    taken_out k false beside other = taken_kept k (subpool_of m.subpools (k / 512)) beside other

    taken_lead : (k : ℕ) (b : Bool) → inside (k / 512) run ≡ b → is_taken after.subpools (subpool_of after.subpools (k / 512)) k ≡ (not (inside k area) && taken k)
    taken_lead k true own = ap (λ o. is_taken after.subpools o k) (named_in (k / 512) own) ∙ sym (not_kept k own)
    taken_lead k false other =
        ap (λ o. is_taken after.subpools o k) (named_out (k / 512) other) ∙ taken_out k (inside k area) refl other

    pub back_leads : model_of after ≡ without_area (model_of m) p d count
    back_leads = λ i. record (model_of m) {
      pages = λ k. (named_lead k ∙ ap (λ b. if b then None else subpool_of m.subpools k) (idle k)) i;
      taken = λ k. taken_lead k (inside (k / 512) run) refl i;
      bytes = λ a. ap (λ b. if b then None else m.bytes a) (idle (a / 4096)) i;
    }

    -- `Stands` holds
    named_at : (q : Subpool) (k : ℕ) (b : Bool) → inside k run ≡ b → after.subpools.pages q k ≡ true → subpool_of after.subpools k ≡ Some q
    named_at q k true own e = absurd (true≢false (sym e ∙ pages_in q k (same_subpool q p) refl own))
    named_at q k false other e = named_out k other ∙ sound.named q k (sym (pages_out q k other) ∙ e)

    rest_at : (k : ℕ) (b : Bool) → inside k run ≡ b → (if b then true else m.unassigned k) ≡ (in_a_region settings k && not (is_some (subpool_of after.subpools k)))
    rest_at k true own =
        sym (and_from (in_a_region settings k) (not (is_some (subpool_of after.subpools k)))
        (sound.well_formed.pages.in_region k p (its k own)) (ap (λ o. not (is_some o)) (named_in k own)))
    rest_at k false other = sound.rest k ∙ ap (λ o. in_a_region settings k && not (is_some o)) (sym (named_out k other))

    free_in : (q : Subpool) (k : ℕ) (b : Bool) → same_subpool q p ≡ b → inside (k / 512) run ≡ true → f q k ≡ true → ⊥
    free_in q k true same own e = true≢false (sym e ∙ ap (λ r. f r k) (same-is q p same) ∙ gone k own)
    free_in q k false other own e =
        true≢false (sym (same-self p)
        ∙ ap (λ r. same_subpool r p) (sound.apart p q (k / 512) (had (k / 512) own) (sound.free q k (sym (others q k other) ∙ e)))
        ∙ other)

    free_out : (q : Subpool) (k : ℕ) (b c : Bool) → same_subpool q p ≡ b → inside k area ≡ c → inside (k / 512) run ≡ false → f q k ≡ true → m.subpools.pages q (k / 512) ≡ true
    free_out q k false c not_same place other e = sound.free q k (sym (others q k not_same) ∙ e)
    free_out q k true true same own other e = ap (λ r. m.subpools.pages r (k / 512)) (same-is q p same) ∙ (held k own).0
    free_out q k true false same beside other e = sound.free q k (sym (free_kept q k true same beside other) ∙ e)

    free_at : (q : Subpool) (k : ℕ) (b : Bool) → inside (k / 512) run ≡ b → f q k ≡ true → after.subpools.pages q (k / 512) ≡ true
    free_at q k true own e = absurd (free_in q k (same_subpool q p) refl own e)
    free_at q k false other e = pages_out q (k / 512) other ∙ free_out q k (same_subpool q p) (inside k area) refl refl other e

    pub stands : Stands settings after.subpools after.unassigned
    stands = record {
      apart = λ q r k e f. sound.apart q r k (pages_were q k (same_subpool q p && inside k run) e) (pages_were r k (same_subpool r p && inside k run) f);
      named = λ q k. named_at q k (inside k run) refl;
      rest = λ k. rest_at k (inside k run) refl;
      free = λ q k. free_at q k (inside (k / 512) run) refl;
    }
