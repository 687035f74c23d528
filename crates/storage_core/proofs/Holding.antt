-- What holds of the first storage, and of one whose state stayed.
use Rattle.std.proofs.Common.{◌≡◌, ℕ, Bool, true, false, ◌&&◌, not, is_some, IsTrue, Option, None, Result, Ok, Err, IfOk, IfErr, [], ◌∷◌, refl, sym, ap, ◌∙◌, subst, arith}
use Rattle.std.proofs.Math.Bool.{Bool-set}
use mathlib.Core.Logic.{∥∥₁_elim}
use Rattle.raw_region.specs.Pages.{has_segment}
use Rattle.vsm_model.specs.declared.Subpool.{Subpool}
use Rattle.vsm_model.specs.declared.limits.Settings.{Settings}
use Rattle.vsm_model.specs.Regions.{settings_valid, in_a_region}
use Rattle.vsm_model.specs.State.{State}
use Rattle.vsm_model.specs.WellFormed.{IsWellFormed}
use Rattle.vsm_model.proofs.First.{first_is_well_formed}
use Rattle.storage_changes.specs.State.{StorageState}
use Rattle.storage_changes.specs.Changes.{Change as Meaning}
use Rattle.storage_changes.specs.Meaning.{all_subpools, subpool_of, IsSound}
use Rattle.storage_changes.proofs.Cases.{and-left}
use Rattle.storage_changes.proofs.FirstLemmas.{first-nothing}
use Rattle.storage_swap.specs.declared.storage.Parts.{Parts}
use Rattle.storage_swap.specs.Storage.{state_of}
use Rattle.storage_swap.specs.declared.change.Change.{Change}
use Rattle.storage_swap.specs.Fresh.{first_storage, IsFresh, FirstIsFirst}
use Rattle.storage_swap.specs.Reserve.{Grown, Reserves}
use Rattle.storage_swap.specs.Swap.{Ready, Discards}
use Rattle.storage_swap.specs.Apart.{AreApart}
use Rattle.storage_swap.specs.HistoryKept.{apart-rest}
use Rattle.storage_swap.specs.ReservedFit.{reserve-apart}
use Rattle.storage_swap.specs.Steps.{storage_steps}
use Rattle.storage_core.specs.Held.{IsHeld}
use Rattle.storage_core.specs.Stays.{Stays}
use Rattle.storage_core.proofs.Staying.{grown_stays}

-- the first storage

-- no subpool has a page of it
no-page : (settings : Settings) (page : ℕ) → subpool_of (first_storage settings).subpools page ≡ None
no-page settings page =
    first-nothing Subpool (λ p. (first_storage settings).subpools.pages p page) (λ p. refl) all_subpools

true-right : (b : Bool) → b ≡ (b && true)
true-right true = refl
true-right false = refl

first_is_sound : FirstIsFirst → (settings : Settings) → IsSound settings (first_storage settings)
first_is_sound first settings = record {
  apart = λ p q page had has. absurd (no had);
  named = λ p page had. absurd (no had);
  rest = λ page. true-right (in_a_region settings page)
      ∙ sym (ap (λ (o : Option Subpool). in_a_region settings page && not (is_some o)) (no-page settings page));
  free = λ p d is. absurd (no is);
  well_formed =
      let P : State → Type 0 = λ s. IsWellFormed settings s in
      subst P (sym (first settings)) (first_is_well_formed settings).storage;
} where
  no : false ≡ true → ⊥
  no h = cc

pub fresh_is_held : FirstIsFirst → (settings : Settings) (p : Parts) → settings_valid settings ≡ true
    → IsFresh settings p → IsHeld settings p
fresh_is_held first settings p valid fresh = record {
  valid = valid;
  stands = fresh.stands;
  once = fresh.once;
  frameless = fresh.frameless;
  segments = fresh.segments;
  sound =
      let P : StorageState → Type 0 = λ m. ∥ IsSound settings m ∥₁ in
      subst P (sym fresh.shows) ∣ first_is_sound first settings ∣₁;
}

-- a storage whose state stayed

alone : (settings : Settings) (p : Parts) → IsHeld settings p → AreApart p []
alone settings p held = record {
  storage = held.stands;
  changes = tt;
  once = λ i. omega (arith, held.once i);
  frameless = held.frameless;
  aside = omega arith;
  out = omega arith;
}

-- a change that is ready is apart from the storage
ready_is_apart : (p : Parts) (c : Change) → Ready p c → AreApart p (c ∷ [])
ready_is_apart p c ready = record {
  storage = ready.stands.storage;
  changes = (
    record {
      records = ready.records;
      parked = ready.stands.parked;
      places = ready.places;
    },
    tt,
  );
  once = λ i. omega (arith, ready.once i);
  frameless = ready.frameless;
  aside = omega (arith, ready.aside);
  out = omega (arith, ready.out);
}

kept_is_held : (settings : Settings) (p t : Parts) → IsHeld settings p → AreApart t []
    → state_of t ≡ state_of p → ((page : ℕ) → has_segment t.region page ≡ has_segment p.region page)
    → IsHeld settings t
kept_is_held settings p t held apart shows segments = record {
  valid = held.valid;
  stands = apart.storage;
  once = λ i. omega (arith, apart.once i);
  frameless = apart.frameless;
  segments = λ page its.
      let P : Bool → Type 0 = λ b. IsTrue b in
      subst P (sym (segments page)) (held.segments page its);
  sound =
      let P : StorageState → Type 0 = λ m. ∥ IsSound settings m ∥₁ in
      subst P (sym shows) held.sound;
}

-- a change was made of it
made_is_held : (settings : Settings) (p t : Parts) (d : Meaning) (c : Change) → IsHeld settings p → Reserves p d c t
    → IsHeld settings t
made_is_held settings p t d c held made =
    kept_is_held settings p t held (apart-rest [] c t (reserve-apart p t d c made [] (alone settings p held)))
    made.shows made.tables.segments

-- or could not be made
grown_is_held : (settings : Settings) (p t : Parts) → IsHeld settings p → Grown p t → IsHeld settings t
grown_is_held settings p t held grown =
    let stays : Stays p t = grown_stays p t held.stands grown in
    kept_is_held settings p t held (stays.apart [] (alone settings p held)) stays.shows grown.tables.segments

pub answered_is_held : {E R : Type 0} (settings : Settings) (p t : Parts) → IsHeld settings p → (r : Result R E)
    (change : R → Change) (meaning : R → Meaning) → IfOk r (λ x. Reserves p (meaning x) (change x) t)
    → IfErr r (λ _. Grown p t) → IsHeld settings t
answered_is_held settings p t held (Ok x) change meaning made grown =
    made_is_held settings p t (meaning x) (change x) held made
answered_is_held settings p t held (Err e) change meaning made grown = grown_is_held settings p t held grown

pub reserved_is_held : {E : Type 0} (settings : Settings) (p t : Parts) (d : Meaning) → IsHeld settings p
    → (r : Result Change E) → IfOk r (λ c. Reserves p d c t) → IfErr r (λ _. Grown p t) → IsHeld settings t
reserved_is_held settings p t d held r made grown = answered_is_held settings p t held r (λ c. c) (λ c. d) made grown

pub discarded_is_held : (settings : Settings) (p t : Parts) (c : Change) → IsHeld settings p → Discards p c t
    → IsHeld settings t
discarded_is_held settings p t c held gone =
    kept_is_held settings p t held
    (storage_steps.discard_apart p t c [] (ready_is_apart p c gone.before) gone)
    (storage_steps.discard_shows p t c gone) gone.tables.segments

-- an unassigned page is one of the regions
pub unassigned_in_region : (settings : Settings) (p : Parts) → IsHeld settings p → (page : ℕ)
    → (state_of p).unassigned page ≡ true → in_a_region settings page ≡ true
unassigned_in_region settings p held page is = ∥∥₁_elim held.sound (Bool-set _ _)
    (λ sound. and-left (in_a_region settings page) (not (is_some (subpool_of (state_of p).subpools page)))
    (sym (sound.rest page) ∙ is))
