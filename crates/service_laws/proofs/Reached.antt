-- What becomes of names, and each state that statements reach.
use Rattle.std.proofs.Common.{◌≡◌, ℕ, ◌≤◌, Bool, true, false, not, ◌&&◌, ◌||◌, Option, Some, None, List, [], ◌∷◌, length, All, refl, sym, ◌∙◌, ap, subst, inl, inr, true≢false}
use Rattle.std.proofs.lemmas.List.Elements.{All-head, All-tail}
use Rattle.vsm_model.specs.declared.causes.Cause.{Cause}
use Rattle.vsm_model.specs.declared.causes.Cause.TheVariants.{TooManyNames, NoStorage, NoCellPool}
use Rattle.vsm_model.specs.declared.limits.Settings.{Settings}
use Rattle.vsm_model.specs.declared.replies.Reply.{Reply}
use Rattle.vsm_model.specs.declared.replies.Reply.TheVariants.{Obtained, Returned, Cell, Attached, Turn, Stored}
use Rattle.vsm_model.specs.Regions.{settings_valid}
use Rattle.vsm_model.specs.State.{State}
use Rattle.vsm_model.specs.Services.{Service, obtain, release, whole, attach, detach, end_task, run, store, build, get, free, delete}
use Rattle.vsm_model.specs.Standing.{Outcome, Accepted, Refused, state_after, alone}
use Rattle.vsm_model.specs.Names.{NamedState, first_named_state, NamedService, named, named_step, names_after, is_one_too_many, AreDistinct}
use Rattle.vsm_model.specs.Areas.{is_nowhere}
use Rattle.vsm_model.specs.Causes.{Causes}
use Rattle.vsm_model.specs.Cells.{sees_pool, pool_of, has_no_cell, extent_place}
use Rattle.vsm_model.specs.Step.{step, effect}
use Rattle.vsm_model.specs.WellFormed.{IsWellFormed, IsWellFormedNamed}
use Rattle.vsm_model.proofs.Chosen.{Stepped, past, accepted_reply, accepted_has_its_effect}
use Rattle.vsm_model.proofs.First.{first_is_well_formed}
use Rattle.vsm_model.proofs.Rows.{with_name-distinct, with_name-few}
use Rattle.service_laws.proofs.Allowed.{obtain_allowed}
use Rattle.service_laws.specs.Reached.{HasItsValues, NamesNothing, IsStatement, StatementLeavesWellFormed, ReachedIsWellFormed}
use Rattle.service_laws.proofs.Services.{service_leaves_well_formed}

-- the reply has an address for a name
abbrev gives : Reply → Bool
gives (Obtained address length) = true
gives (Cell address) = true
gives (Returned code) = false
gives (Attached task) = false
gives (Turn task) = false
gives Stored = false

module _ (settings : Settings) (s t : State) (reply : Reply) where
  -- a service whose effect gives none
  gives_none : (x : Service) → step settings true s x ≡ Accepted t reply → gives (effect settings s x).1 ≡ false → gives reply ≡ true → ⊥
  gives_none x e none some =
      elim (accepted_has_its_effect settings true s t x reply e) [
        | inl done ↦ true≢false (sym some ∙ sym (ap gives (accepted_reply _ t _ reply done.1)) ∙ none)
        | inr four ↦ true≢false (sym some ∙ ap gives four.1)
      ]

  area_given : (o : _) → step settings true s (obtain o) ≡ Accepted t reply → gives reply ≡ true → ⊥
  area_given o e some =
      elim (accepted_has_its_effect settings true s t (obtain o) reply e) [
        | inl done ↦ true≢false (obtain_allowed settings true s o done.0).room
        | inr four ↦ true≢false (sym some ∙ ap gives four.1)
      ]

  cell_given : (name : List ℕ) (g : _) → step settings true s (get name g) ≡ Accepted t reply → gives reply ≡ true → ⊥
  cell_given name g e some =
      elim (accepted_has_its_effect settings true s t (get name g) reply e) [
        | inl done ↦
            let last : Causes =
            (has_no_cell (pool_of s name) && (g.conditional || is_nowhere (extent_place settings s (pool_of s name) (pool_of s name).secondary)), NoStorage) ∷ [] in
            let names : Causes = (true, TooManyNames) ∷ last in
            true≢false (past true TooManyNames last (past (not (sees_pool s name)) NoCellPool names done.0).1).0
        | inr four ↦ true≢false (sym some ∙ ap gives four.1)
      ]

  -- a statement whose name would be one too many gives it no address
  none_with_full : (x : Service) (named_by : Option (List ℕ)) → NamesNothing x named_by → (named_by ≡ None → ⊥) →
      step settings true s x ≡ Accepted t reply → gives reply ≡ true → ⊥
  none_with_full (obtain o) n unnamed named e = area_given o e
  none_with_full (release r) n unnamed named e = gives_none (release r) e refl
  none_with_full (whole number) n unnamed named e = gives_none (whole number) e refl
  none_with_full (attach a) n unnamed named e = gives_none (attach a) e refl
  none_with_full (detach task) n unnamed named e = gives_none (detach task) e refl
  none_with_full end_task n unnamed named e = gives_none end_task e refl
  none_with_full (run task) n unnamed named e = gives_none (run task) e refl
  none_with_full (store address bytes) n unnamed named e = gives_none (store address bytes) e refl
  none_with_full (build name header b) n unnamed named e = λ some. named unnamed
  none_with_full (get name g) n unnamed named e = cell_given name g e
  none_with_full (free name cell) n unnamed named e = gives_none (free name cell) e refl
  none_with_full (delete name) n unnamed named e = gives_none (delete name) e refl

-- the names after a reply are distinct and few
module _ (names : List (List ℕ × ℕ)) (distinct : AreDistinct names) (few : length names ≤ 1024) where
  abbrev Kept : List (List ℕ × ℕ) → Type 0
  Kept after = AreDistinct after × (length after ≤ 1024)

  given : (name : List ℕ) (address : ℕ) (full : Bool) → is_one_too_many names (Some name) ≡ full → (full ≡ true → ⊥) →
      Kept (names_after names (Some name) (Cell address))
  given name address true is none = absurd (none refl)
  given name address false is none = (with_name-distinct names name address distinct, with_name-few names name address few is)

  names_kept : (named_by : Option (List ℕ)) (reply : Reply) → (gives reply ≡ true → is_one_too_many names named_by ≡ true → ⊥) → Kept (names_after names named_by reply)
  names_kept None (Obtained address length) none = (distinct, few)
  names_kept None (Cell address) none = (distinct, few)
  names_kept None (Returned code) none = (distinct, few)
  names_kept None (Attached task) none = (distinct, few)
  names_kept None (Turn task) none = (distinct, few)
  names_kept None Stored none = (distinct, few)
  names_kept (Some name) (Obtained address length) none = given name address (is_one_too_many names (Some name)) refl (none refl)
  names_kept (Some name) (Cell address) none = given name address (is_one_too_many names (Some name)) refl (none refl)
  names_kept (Some name) (Returned code) none = (distinct, few)
  names_kept (Some name) (Attached task) none = (distinct, few)
  names_kept (Some name) (Turn task) none = (distinct, few)
  names_kept (Some name) Stored none = (distinct, few)

named_is : (m n : NamedState) (q r : Reply) → ◌≡◌ {A = Outcome NamedState Reply Cause} (Accepted m q) (Accepted n r) → m ≡ n
named_is m n q r e = cc

named_refused : (cause : Cause) (n : NamedState) (r : Reply) → ◌≡◌ {A = Outcome NamedState Reply Cause} (Refused cause) (Accepted n r) → ⊥
named_refused cause n r e = cc

module _ (settings : Settings) (valid : settings_valid settings ≡ true) (m : NamedState) (w : IsWellFormedNamed settings m) (x : NamedService) (is_one : IsStatement x) where
  not_full : (full : Bool) (t : State) (reply : Reply) → is_one_too_many m.names x.name ≡ full → step settings full m.storage x.service ≡ Accepted t reply →
      gives reply ≡ true → is_one_too_many m.names x.name ≡ true → ⊥
  not_full true t reply is e some full =
      none_with_full settings m.storage t reply x.service x.name is_one.unnamed
      (λ none. true≢false (sym full ∙ ap (is_one_too_many m.names) none)) e some
  not_full false t reply is e some full = true≢false (sym full ∙ is)

  outcome_kept : (n : NamedState) (r : Reply) (o : Stepped) →
      step settings (is_one_too_many m.names x.name) m.storage x.service ≡ o → named m.names x.name o ≡ Accepted n r → IsWellFormedNamed settings n
  outcome_kept n r (Accepted t q) is e =
      let kept = names_kept m.names w.distinct w.few x.name q (not_full (is_one_too_many m.names x.name) t q refl is) in
      subst (IsWellFormedNamed settings) (named_is (record { storage = t; names = names_after m.names x.name q }) n q r e)
      (record {
        storage = service_leaves_well_formed settings (is_one_too_many m.names x.name) m.storage t x.service q valid is_one.values w.storage is;
        distinct = kept.0;
        few = kept.1;
      })
  outcome_kept n r (Refused cause) is e = absurd (named_refused cause n r e)

pub statement_leaves_well_formed : StatementLeavesWellFormed
statement_leaves_well_formed settings m n x r valid is_one w e =
    outcome_kept settings valid m w x is_one n r (step settings (is_one_too_many m.names x.name) m.storage x.service) refl e

-- a refused statement leaves the state as it was
left_well_formed : (settings : Settings) (m : NamedState) (x : NamedService) (o : Outcome NamedState Reply Cause) → settings_valid settings ≡ true →
    IsStatement x → named_step settings m x ≡ o → IsWellFormedNamed settings m → IsWellFormedNamed settings (state_after m o)
left_well_formed settings m x (Accepted n r) valid is_one e w = statement_leaves_well_formed settings m n x r valid is_one w e
left_well_formed settings m x (Refused cause) valid is_one e w = w

pub reached_is_well_formed : ReachedIsWellFormed
reached_is_well_formed settings [] valid all = first_is_well_formed settings
reached_is_well_formed settings (x ∷ older) valid all =
    left_well_formed settings (alone first_named_state (named_step settings) older) x _ valid (All-head IsStatement x older all) refl
    (reached_is_well_formed settings older valid (All-tail IsStatement x older all))
