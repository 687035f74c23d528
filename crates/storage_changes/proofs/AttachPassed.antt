-- A subpool that passes to another task, and what that is on the plain machine.
use Rattle.std.proofs.Common.{◌≡◌, ◌≢◌, ℕ, Bool, true, false, not, ◌&&◌, ◌||◌, ◌==◌, ◌⊎◌, inl, inr, if◌then◌else◌, Option, Some, None, is_some, refl, sym, ◌∙◌, ap, true≢false}
use Rattle.std.specs.Prelude.{◌/◌}
use Rattle.std.specs.Option.{option_map}
use Rattle.std.proofs.lemmas.Bool.{cond-true, cond-false, eqb-true, eq-eqb, cases_Bool, both_ways, false_from_ne_true}
use Rattle.vsm_model.specs.declared.Subpool.{Subpool}
use Rattle.vsm_model.specs.declared.limits.Settings.{Settings}
use Rattle.vsm_model.specs.Passing.{handed_on, with_gift}
use Rattle.vsm_model.specs.Regions.{in_a_region}
use Rattle.vsm_model.specs.Search.{holds}
use Rattle.vsm_model.specs.Subpools.{same_subpool}
use Rattle.storage_changes.specs.TableLaws.{AllRowsChange}
use Rattle.storage_changes.specs.NamedPools.{AreNamed}
use Rattle.subpool_storage.specs.Subpools.{Subpools, owned_by, with_passed}
use Rattle.storage_changes.specs.State.{StorageState}
use Rattle.storage_changes.specs.Laws.{CanBe, PagesAreApart}
use Rattle.storage_changes.specs.Meaning.{first_of, all_subpools, subpool_of, is_taken, model_of}
use Rattle.storage_changes.proofs.Cases.{same-self, same-is}
use Rattle.storage_changes.proofs.MeaningLemmas.{pages_are_named, named_pages_are_there}
use Rattle.storage_changes.proofs.Rows.{Stands}
use Rattle.service_laws.proofs.Options.{some_mapped}
use Rattle.storage_changes.proofs.AttachCells.{rows_handed_on}

-- What is in the old subpool is in the new one, whose own is empty.
module _ (f : Subpool → ℕ → Bool) (old new : Subpool) where
  abbrev pub moved : Subpool → ℕ → Bool
  moved q k = if same_subpool q new then f old k else if same_subpool q old then false else f q k

  moved_new : (k : ℕ) → moved new k ≡ f old k
  moved_new k = cond-true (same_subpool new new) (f old k) (if same_subpool new old then false else f new k) (same-self new)

  -- what isn't in the old one stays where it was
  moved_stays : (q : Subpool) (k : ℕ) → f old k ≡ false → f new k ≡ false → moved q k ≡ f q k
  moved_stays q k none_old none_new = go (same_subpool q new) (same_subpool q old) refl refl where
    go : (b c : Bool) → same_subpool q new ≡ b → same_subpool q old ≡ c → (if b then f old k else if c then false else f q k) ≡ f q k
    go true c is e = none_old ∙ sym (ap (λ r. f r k) (same-is q new is) ∙ none_new)
    go false true e is = sym (ap (λ r. f r k) (same-is q old is) ∙ none_old)
    go false false e d = refl

  -- and what is anywhere came from the old one, or was there before
  moved_from : (q : Subpool) (k : ℕ) → moved q k ≡ true
      → ((q ≡ new) × (f old k ≡ true)) ⊎ ((same_subpool q new ≡ false) × (same_subpool q old ≡ false) × (f q k ≡ true))
  moved_from q k e = go (same_subpool q new) (same_subpool q old) refl refl e where
    go : (b c : Bool) → same_subpool q new ≡ b → same_subpool q old ≡ c → (if b then f old k else if c then false else f q k) ≡ true
        → ((q ≡ new) × (f old k ≡ true)) ⊎ ((same_subpool q new ≡ false) × (same_subpool q old ≡ false) × (f q k ≡ true))
    go true c is d own = inl (same-is q new is, own)
    go false true d is own = absurd (true≢false (sym own))
    go false false d e own = inr (d, e, own)

-- the state once the subpool is another task's
abbrev pub passed : StorageState → Subpool → ℕ → StorageState
passed m p to = record m { subpools = with_passed m.subpools p to }

module _ (settings : Settings) (m : StorageState) (old : Subpool) (to : ℕ) (stands : Stands settings m.subpools m.unassigned) (can : CanBe (owned_by old to))
    (none : (k : ℕ) → m.subpools.pages (owned_by old to) k ≡ false) where
  abbrev u : Subpools
  u = m.subpools

  abbrev after : Subpools
  after = with_passed m.subpools old to

  abbrev new : Subpool
  new = owned_by old to

  abbrev hand : Subpool → Subpool
  hand = handed_on old.number old.owner to

  pub none_free : (d : ℕ) → u.free new d ≡ false
  none_free d = false_from_ne_true (u.free new d) (λ e. both_ways (u.pages new (d / 512)) (none (d / 512)) (stands.free new d e))

  not_old : (q : Subpool) (k : ℕ) → same_subpool q old ≡ false → u.pages q k ≡ true → u.pages old k ≡ true → ⊥
  not_old q k other own its = both_ways (same_subpool q old) other (ap (λ r. same_subpool r old) (stands.apart q old k own its) ∙ same-self old)

  apart : PagesAreApart after
  apart p q k e f =
      elim (moved_from u.pages old new p k e) [
        | inl one ↦ elim (moved_from u.pages old new q k f) [
          | inl two ↦ one.0 ∙ sym two.0
          | inr two ↦ absurd (not_old q k two.1 two.2 one.1)
        ]
        | inr one ↦ elim (moved_from u.pages old new q k f) [
          | inl two ↦ absurd (not_old p k one.1 one.2 two.1)
          | inr two ↦ stands.apart p q k one.2 two.2
        ]
      ]

  named_in : (k : ℕ) → u.pages old k ≡ true → subpool_of after k ≡ Some new
  named_in k own = pages_are_named after apart new k can (moved_new u.pages old new k ∙ own)

  named_out : (k : ℕ) → u.pages old k ≡ false → subpool_of after k ≡ subpool_of u k
  named_out k other = ap (λ (passes : Subpool → Bool). first_of passes all_subpools) (λ i q. moved_stays u.pages old new q k other (none k) i)

  hand_old : hand old ≡ new
  hand_old = cond-true (same_subpool old old) new old (same-self old)

  kept : (k : ℕ) (o : Option Subpool) → u.pages old k ≡ false → subpool_of u k ≡ o → o ≡ option_map hand o
  kept k None other e = refl
  kept k (Some q) other e =
      let is_not : same_subpool q old ≡ false = false_from_ne_true (same_subpool q old)
      (λ is. both_ways (u.pages old k) other (ap (λ r. u.pages r k) (sym (same-is q old is)) ∙ (named_pages_are_there u k).0 q e)) in
      ap Some (sym (cond-false (same_subpool q old) new q is_not))

  pages_lead : (k : ℕ) → subpool_of after k ≡ option_map hand (subpool_of u k)
  pages_lead k =
      elim (cases_Bool (u.pages old k)) [
        | inl own ↦ named_in k own ∙ sym (ap (option_map hand) (stands.named old k own) ∙ ap Some hand_old)
        | inr other ↦ named_out k other ∙ kept k (subpool_of u k) other refl
      ]

  taken_stays : (d : ℕ) (o : Option Subpool) → u.free old d ≡ false → is_taken after o d ≡ is_taken u o d
  taken_stays d None other = refl
  taken_stays d (Some q) other = ap not (moved_stays u.free old new q d other (none_free d))

  taken_lead : (d : ℕ) → is_taken after (subpool_of after (d / 512)) d ≡ is_taken u (subpool_of u (d / 512)) d
  taken_lead d =
      elim (cases_Bool (u.pages old (d / 512))) [
        | inl own ↦
            ap (λ o. is_taken after o d) (named_in (d / 512) own) ∙ ap not (moved_new u.free old new d)
            ∙ sym (ap (λ o. is_taken u o d) (stands.named old (d / 512) own))
        | inr other ↦
            ap (λ o. is_taken after o d) (named_out (d / 512) other)
            ∙ taken_stays d (subpool_of u (d / 512)) (false_from_ne_true (u.free old d) (λ e. both_ways (u.pages old (d / 512)) other (stands.free old d e)))
      ]

  -- `Stands` holds
  named_at : (q : Subpool) (k : ℕ) → after.pages q k ≡ true → subpool_of after k ≡ Some q
  named_at q k e =
      elim (cases_Bool (u.pages old k)) [
        | inl own ↦ elim (moved_from u.pages old new q k e) [
          | inl its ↦ named_in k own ∙ ap Some (sym its.0)
          | inr its ↦ absurd (not_old q k its.1 its.2 own)
        ]
        | inr other ↦ named_out k other ∙ stands.named q k (sym (moved_stays u.pages old new q k other (none k)) ∙ e)
      ]

  free_at : (q : Subpool) (d : ℕ) → after.free q d ≡ true → after.pages q (d / 512) ≡ true
  free_at q d e =
      elim (moved_from u.free old new q d e) [
        | inl its ↦ ap (λ r. after.pages r (d / 512)) its.0 ∙ moved_new u.pages old new (d / 512) ∙ stands.free old d its.1
        | inr its ↦
            cond-false (same_subpool q new) (u.pages old (d / 512)) (if same_subpool q old then false else u.pages q (d / 512)) its.0
            ∙ cond-false (same_subpool q old) false (u.pages q (d / 512)) its.1 ∙ stands.free q d its.2
      ]

  pub passed_stands : Stands settings after m.unassigned
  passed_stands = record {
    apart = apart;
    named = named_at;
    rest = λ k. stands.rest k ∙ ap (λ b. in_a_region settings k && not b) (sym (ap is_some (pages_lead k) ∙ some_mapped hand (subpool_of u k)));
    free = free_at;
  }

  -- the owners of the subpools that exist
  there_leads : (owner : ℕ) (b c d : Bool) (o : Option ℕ) → to ≢ old.owner → (owner == to) ≡ c → (owner == old.owner) ≡ d
      → holds (λ t. t == owner) (if not b then o else if c then Some to else if d then None else option_map (λ t. if t == old.owner then to else t) o)
      ≡ (if b then c || (not d && holds (λ t. t == owner) o) else holds (λ t. t == owner) o)
  there_leads owner false c d o other e f = refl
  there_leads owner true true d o other e f = eq-eqb to owner (sym (eqb-true owner to e))
  there_leads owner true false true o other e f = refl
  there_leads owner true false false None other e f = refl
  there_leads owner true false false (Some t) other e f =
      elim (cases_Bool (t == old.owner)) [
        | inl is ↦
            ap (λ b. (if b then to else t) == owner) is
            ∙ false_from_ne_true (to == owner) (λ at. both_ways (owner == to) e (eq-eqb owner to (sym (eqb-true to owner at))))
            ∙ sym (false_from_ne_true (t == owner) (λ at. both_ways (owner == old.owner) f (eq-eqb owner old.owner (sym (eqb-true t owner at) ∙ eqb-true t old.owner is))))
        | inr is_not ↦ ap (λ b. (if b then to else t) == owner) is_not
      ]

  -- and so it is on the plain machine
  pub passed_leads : AllRowsChange → AreNamed u.cells → to ≢ old.owner → model_of (passed m old to) ≡ with_gift (model_of m) old.owner to old.number
  passed_leads change named other = λ i. record (with_gift (model_of m) old.owner to old.number) {
    subpools = λ number owner. there_leads owner (number == old.number) (owner == to) (owner == old.owner) (u.sight owner number) other refl refl i;
    pages = λ k. pages_lead k i;
    taken = λ d. taken_lead d i;
    cell_pools = rows_handed_on old to change u.cells named i;
  }
