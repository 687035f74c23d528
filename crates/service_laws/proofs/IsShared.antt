-- What a share leaves of its number.
use Rattle.std.proofs.Common.{◌≡◌, ◌≢◌, ℕ, Bool, true, ◌||◌, ◌==◌, if◌then◌else◌, Some, is_some, refl, sym, ◌∙◌, ap, subst}
use Rattle.std.proofs.lemmas.Bool.{cond-true, cond-false, cond_both, or_left, eq-eqb, ne_eqb}
use Rattle.vsm_model.specs.State.{State}
use Rattle.vsm_model.specs.WellFormed.{SightIsSound}
use Rattle.service_laws.specs.Attached.{IsShared}
use Rattle.service_laws.proofs.Options.{some_there, none_there}
use Rattle.service_laws.proofs.SightRows.{owner_at, owner_seen, owner_own}
use Rattle.service_laws.proofs.Passed.{own_row, share_row, share_pools, row_at, pools_at}

module _ (s t : State) (new number : ℕ) (sight : (task : ℕ) → t.sight task number ≡ share_row (row_at s number) s.current new task) (pools : (owner : ℕ) → t.subpools number owner ≡ share_pools (row_at s number) (pools_at s number) s.current owner) (w : SightIsSound s) (apart : new ≢ s.current) where
  abbrev its : ℕ
  its = owner_at s number

  abbrev row : ℕ → Bool
  row owner = (owner == s.current) || s.subpools number owner

  is_there : t.subpools number its ≡ true
  is_there =
      pools its
      ∙ cond_both (is_some (s.sight s.current number)) (s.subpools number its) (row its) (λ b. b ≡ true)
      (λ sees.
      let (owner, at) = some_there (s.sight s.current number) sees in
      subst (λ o. s.subpools number o ≡ true) (sym (owner_seen s number owner at)) (w.seen_is_there s.current number owner at))
      (λ none. or_left (its == s.current) (s.subpools number its)
      (eq-eqb its s.current (owner_own s number (none_there (s.sight s.current number) none))))

  -- any task except the new one
  others : (task : ℕ) → task ≢ new → t.sight task number ≡ own_row (row_at s number) s.current task
  others task other = sight task ∙ cond-false (task == new) (Some its) (own_row (row_at s number) s.current task) (ne_eqb task new other)

  seen_still : t.sight s.current number ≡ Some its
  seen_still =
      others s.current (λ is. apart (sym is))
      ∙ cond_both (is_some (s.sight s.current number)) (s.sight s.current number) (if s.current == s.current then Some s.current else s.sight s.current number) (λ o. o ≡ Some its)
      (λ sees. let (owner, at) = some_there (s.sight s.current number) sees in at ∙ ap Some (sym (owner_seen s number owner at)))
      (λ none.
      cond-true (s.current == s.current) (Some s.current) (s.sight s.current number) (eq-eqb s.current s.current refl)
      ∙ ap Some (sym (owner_own s number (none_there (s.sight s.current number) none))))

  other_sight : (task : ℕ) → task ≢ s.current → task ≢ new → t.sight task number ≡ s.sight task number
  other_sight task not_current not_new =
      others task not_new
      ∙ cond_both (is_some (s.sight s.current number)) (s.sight task number) (if task == s.current then Some s.current else s.sight task number) (λ o. o ≡ s.sight task number)
      (λ _. refl)
      (λ _. cond-false (task == s.current) (Some s.current) (s.sight task number) (ne_eqb task s.current not_current))

  other_owners : (owner : ℕ) → owner ≢ its → t.subpools number owner ≡ s.subpools number owner
  other_owners owner other =
      pools owner
      ∙ cond_both (is_some (s.sight s.current number)) (s.subpools number owner) (row owner) (λ b. b ≡ s.subpools number owner)
      (λ _. refl)
      (λ none. ap (λ b. b || s.subpools number owner)
      (ne_eqb owner s.current (λ is. other (is ∙ sym (owner_own s number (none_there (s.sight s.current number) none))))))

  pub is_shared : IsShared s t new number
  is_shared = record {
    owner = its;
    one_that_it_saw = λ o at. owner_seen s number o at;
    else_its_own = λ none. owner_own s number none;
    there = is_there;
    seen = sight new ∙ cond-true (new == new) (Some its) (own_row (row_at s number) s.current new) (eq-eqb new new refl);
    seen_still = seen_still;
    other_sight = other_sight;
    other_owners = other_owners;
  }
