-- A giver that obtains storage again is made a new subpool.
use Rattle.std.proofs.Common.{◌≡◌, ◌≢◌, ℕ, Bool, true, ◌&&◌, ◌==◌, Some, None, is_some, refl, sym, ◌∙◌, ap, subst, inl, inr}
use Rattle.std.proofs.lemmas.Bool.{cond-true, cond-false, and_from, and_left, or_left, or_right, eq-eqb, ne_eqb}
use Rattle.vsm_model.specs.declared.Subpool.{Subpool}
use Rattle.vsm_model.specs.declared.replies.Reply.{Reply}
use Rattle.vsm_model.specs.declared.replies.Reply.TheVariants.{Obtained, Returned}
use Rattle.vsm_model.specs.Regions.{among, pages_for}
use Rattle.vsm_model.specs.State.{State}
use Rattle.vsm_model.specs.Subpools.{sees_one, with_subpool, seen_or_own, with_own}
use Rattle.vsm_model.specs.Areas.{Place, Inside, Fresh, Nowhere}
use Rattle.vsm_model.specs.Services.{obtain}
use Rattle.vsm_model.specs.Registers.{with_registers, registers_set}
use Rattle.vsm_model.specs.Obtaining.{with_area, obtained}
use Rattle.vsm_model.proofs.Chosen.{accepted_has_its_effect, accepted_state}
use Rattle.vsm_model.proofs.Registered.{words_alone}
use Rattle.service_laws.specs.Attached.{IsGiven, HasANewOne, AGiverIsMadeANewOne}
use Rattle.service_laws.proofs.Options.{none_some, some_none, same_some}
use Rattle.service_laws.proofs.SightRows.{chosen}

module _ (v : State) (p : Subpool) (count : ℕ) where
  area_sight : (goes : Place) → (with_area v p count goes).sight ≡ v.sight
  area_sight (Inside d) = refl
  area_sight (Fresh page) = refl
  area_sight Nowhere = refl

  area_subpools : (goes : Place) → (with_area v p count goes).subpools ≡ v.subpools
  area_subpools (Inside d) = refl
  area_subpools (Fresh page) = refl
  area_subpools Nowhere = refl

  -- each page that an area newly needs is the subpool's
  area_pages : (goes : Place) (k : ℕ) (q : Subpool) → v.pages k ≡ None → (with_area v p count goes).pages k ≡ Some q → q ≡ p
  area_pages (Inside d) k q none e = absurd (none_some q (sym none ∙ e))
  area_pages (Fresh page) k q none e =
      chosen (among page (pages_for count) k) (Some p) (v.pages k) (Some q) (q ≡ p) e (λ _ is. sym (same_some p q is)) (λ _ old. absurd (none_some q (sym none ∙ old)))
  area_pages Nowhere k q none e = absurd (none_some q (sym none ∙ e))

module _ (s t : State) (task number : ℕ) (g : IsGiven s t task number) (now : t.current ≡ s.current) where
  apart : task ≢ t.current
  apart is = some_none task (sym g.seen ∙ ap (λ x. t.sight x number) (is ∙ now) ∙ g.not_seen)

  -- it sees none, so a new one is made
  own_is : with_own t number ≡ with_subpool t number t.current
  own_is =
      cond-false (sees_one t number) t (with_subpool t number t.current)
      (ap (λ x. is_some (t.sight x number)) now ∙ ap is_some g.not_seen)

  is_now : (s.current == t.current) ≡ true
  is_now = eq-eqb s.current t.current (sym now)

  has_a_new_one : (p : Subpool) → p ≡ record { number = number; owner = s.current } → (count : ℕ) (goes : Place) →
      HasANewOne t (with_area (with_own t number) p count goes) s.current task number
  has_a_new_one p its count goes = record {
    owned =
        ap (λ (pools : ℕ → ℕ → Bool). pools number s.current) (area_subpools (with_own t number) p count goes)
        ∙ ap (λ (u : State). u.subpools number s.current) own_is
        ∙ or_left ((number == number) && (s.current == t.current)) (t.subpools number s.current) (and_from (number == number) (s.current == t.current) (eq-eqb number number refl) is_now);
    seen =
        ap (λ sight. sight s.current number) (area_sight (with_own t number) p count goes)
        ∙ ap (λ (u : State). u.sight s.current number) own_is
        ∙ cond-true ((s.current == t.current) && (number == number)) (Some t.current) (t.sight s.current number)
        (and_from (s.current == t.current) (number == number) is_now (eq-eqb number number refl))
        ∙ ap Some now;
    pages = λ k q none e. area_pages (with_own t number) p count goes k q (ap (λ (u : State). u.pages k) own_is ∙ none) e ∙ its;
    kept =
        ap (λ (pools : ℕ → ℕ → Bool). pools number task) (area_subpools (with_own t number) p count goes)
        ∙ ap (λ (u : State). u.subpools number task) own_is
        ∙ or_right ((number == number) && (task == t.current)) (t.subpools number task) g.owned;
    seen_still =
        ap (λ sight. sight task number) (area_sight (with_own t number) p count goes)
        ∙ ap (λ (u : State). u.sight task number) own_is
        ∙ cond-false ((task == t.current) && (number == number)) (Some t.current) (t.sight task number)
        (and_left (task == t.current) (number == number) (ne_eqb task t.current apart))
        ∙ g.seen;
  }

-- registers are no part of it
registered : (t u : State) (giver task number : ℕ) (words : ℕ → ℕ → ℕ) → HasANewOne t u giver task number → HasANewOne t (record u { words = words }) giver task number
registered t u giver task number words h =
    record { owned = h.owned; seen = h.seen; pages = h.pages; kept = h.kept; seen_still = h.seen_still }

not_four : (address given : ℕ) → ◌≡◌ {A = Reply} (Obtained address given) (Returned 4) → ⊥
not_four address given e = cc

pub a_giver_is_made_a_new_one : AGiverIsMadeANewOne
a_giver_is_made_a_new_one settings names_full s t u task o address given g now e =
    elim (accepted_has_its_effect settings names_full t u (obtain o) (Obtained address given) e) [
      | inl done ↦
          let after : State = (obtained settings t o).0 in
          let rows = registers_set (obtain o) (obtained settings t o).1 in
          let is = accepted_state (with_registers after rows) u (obtained settings t o).1 (Obtained address given) done.1 in
          subst (λ (x : State). HasANewOne t x s.current task o.number) (sym (words_alone rows after) ∙ is)
          (registered t after s.current task o.number (with_registers after rows).words
          (has_a_new_one s t task o.number g now (seen_or_own t o.number) g.asked_again _ _))
      | inr four ↦ absurd (not_four address given four.1)
    ]
