-- Subpools that exist, and one that is new.
use Rattle.std.proofs.Common.{◌≡◌, ℕ, ◌+◌, ◌≤◌, Bool, true, false, ◌&&◌, ◌||◌, ◌==◌, if◌then◌else◌, Option, Some, None, refl, sym, ◌∙◌, ap, arith, true≢false}
use Rattle.std.specs.Prelude.{◌/◌}
use Rattle.std.proofs.lemmas.Bool.{and_from, cond-true, eqb-true, eq-eqb, false_from_ne_true}
use Rattle.vsm_model.specs.declared.Subpool.{Subpool}
use Rattle.vsm_model.specs.declared.limits.Settings.{Settings}
use Rattle.vsm_model.specs.Search.{holds}
use Rattle.subpool_storage.specs.Subpools.{Subpools, is_there, with_own}
use Rattle.storage_changes.specs.State.{StorageState}
use Rattle.storage_changes.specs.Meaning.{model_of, IsSound}
use Rattle.storage_changes.specs.Laws.{CanBe}
use Rattle.storage_changes.specs.StorageActions.{own_records}
use Rattle.storage_changes.specs.Leads.{CanOwn, with_new}
use Rattle.storage_changes.proofs.Goes.{at, Goes, goes_nowhere}
use Rattle.storage_changes.proofs.Records.{owned, own_goes}

module _ (settings : Settings) (m : StorageState) (sound : IsSound settings m) (p : Subpool) where
  -- a subpool with a page exists
  pub has_pages : (page : ℕ) → m.subpools.pages p page ≡ true → is_there m.subpools p ≡ true
  has_pages page e = sound.well_formed.pages.has_subpool page p (sound.named p page e)

  -- what exists has a number of private storage and a task for its owner
  pub there_is_named : is_there m.subpools p ≡ true → CanBe p
  there_is_named there =
      let owner = sound.well_formed.tasks.numbered p.owner (sound.well_formed.sight.owner_is_task p.number p.owner there) in
      (sound.well_formed.sight.is_private p.number p.owner there, owner.0, owner.1)

  module _ (unseen : m.subpools.sight p.owner p.number ≡ None) where
    not_there : is_there m.subpools p ≡ true → ⊥
    not_there there = true≢false (sym there ∙ ap (holds (λ owner. owner == p.owner)) unseen)

    pub new_has_no_page : (page : ℕ) → m.subpools.pages p page ≡ false
    new_has_no_page page = false_from_ne_true (m.subpools.pages p page) (λ e. not_there (has_pages page e))

    pub new_has_none_free : (d : ℕ) → m.subpools.free p d ≡ false
    new_has_none_free d = false_from_ne_true (m.subpools.free p d) (λ e. not_there (has_pages (d / 512) (sound.free p d e)))

    -- nobody sees it
    pub new_is_alone : (task : ℕ) → m.subpools.sight task p.number ≡ Some p.owner → task ≡ p.owner
    new_is_alone task e = absurd (not_there (sound.well_formed.sight.seen_is_there task p.number p.owner e))

  -- what an action's subpool is
  pub place_of : (is_new : Bool) → CanOwn m p is_new → CanBe p
  place_of true own =
      let current = sound.well_formed.tasks.numbered m.tasks.current sound.well_formed.tasks.current_is_task in
      (own.1, omega (arith, own.0, current.0), omega (arith, own.0, current.1))
  place_of false there = there_is_named there

-- a subpool that is made exists
pub own_is_there : (u : Subpools) (p : Subpool) → is_there (with_own u p true) p ≡ true
own_is_there u p =
    ap (holds (λ owner. owner == p.owner))
    (cond-true ((p.owner == p.owner) && (p.number == p.number)) (Some p.owner) (u.sight p.owner p.number)
    (and_from (p.owner == p.owner) (p.number == p.number) (eq-eqb p.owner p.owner refl) (eq-eqb p.number p.number refl)))
    ∙ eq-eqb p.owner p.owner refl

-- the subpool exists once it is made, if it is new
pub made_is_there : (m : StorageState) (p : Subpool) (is_new : Bool) → CanOwn m p is_new → is_there (owned m p is_new).subpools p ≡ true
made_is_there m p true own = own_is_there m.subpools p
made_is_there m p false there = there

there_leads :
    (m : StorageState) (p : Subpool) (number owner : ℕ) (b c : Bool) → (number == p.number) ≡ b → (owner == p.owner) ≡ c
    → holds (λ o. o == owner) (if c && b then Some p.owner else m.subpools.sight owner number)
    ≡ ((b && c) || holds (λ o. o == owner) (m.subpools.sight owner number))
there_leads m p number owner true true same_number same_owner = eq-eqb p.owner owner (sym (eqb-true owner p.owner same_owner))
there_leads m p number owner true false e f = refl
there_leads m p number owner false true e f = refl
there_leads m p number owner false false e f = refl

-- and so it is on the plain machine
pub owned_leads : (m : StorageState) (p : Subpool) (is_new : Bool) → model_of (owned m p is_new) ≡ with_new (model_of m) p is_new
owned_leads m p true = λ i. record (model_of (owned m p true)) {
  subpools = λ number owner. there_leads m p number owner (number == p.number) (owner == p.owner) refl refl i;
}
owned_leads m p false = refl

-- the records make it
pub own_records_go :
    (settings : Settings) (m : StorageState) (sound : IsSound settings m) (b g : ℕ → Option ℕ) (s left : ℕ) (p : Subpool) (is_new : Bool) → CanOwn m p is_new
    → 1 ≤ left → left + 1 ≤ s → Goes (at m b g s) (own_records p is_new) (owned m p is_new) b g left
own_records_go settings m sound b g s left p true own some less =
    let place = place_of settings m sound p true own in
    own_goes m b g s left p (place.1, place.2) own.1 own.2 (new_is_alone settings m sound p own.2) (new_has_no_page settings m sound p own.2)
    (new_has_none_free settings m sound p own.2) some less
own_records_go settings m sound b g s left p false there some less = goes_nowhere m b g s left (omega (arith, less))
