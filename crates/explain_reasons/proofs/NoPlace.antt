-- A request that gets to look for a place has none exactly if its first cause is lack of storage.
use Rattle.std.proofs.Common.{◌≡◌, ◌⊎◌, ℕ, Bool, true, false, not, ◌&&◌, ◌||◌, ◌==◌, nat_lt, ◌↔◌, is_none, Option, Some, None, ◌∷◌, [], refl, subst, sym, ◌∙◌, inl, inr, true≢false}
use Rattle.vsm_model.specs.declared.causes.Cause.{Cause}
use Rattle.vsm_model.specs.declared.causes.Cause.TheVariants.{UnsupportedSubpool, SubpoolNotAllowed, BadLength, TooManyNames, NoStorage}
use Rattle.vsm_model.specs.declared.limits.Settings.{Settings}
use Rattle.vsm_model.specs.declared.services.Obtain.{Obtain}
use Rattle.vsm_model.specs.Causes.{Causes, first_cause}
use Rattle.vsm_model.specs.Obtaining.{longest, obtain_causes}
use Rattle.vsm_model.specs.Services.{maximum, minimum}
use Rattle.vsm_model.specs.State.{State}
use Rattle.explain_reasons.specs.Places.{asks_for_place, NoPlaceIsWantOfStorage}

-- none of these holds, or the first that does is lack of storage
abbrev Looks : Option Cause → Type 0
Looks cause = (cause ≡ None) ⊎ (cause ≡ Some NoStorage)

-- a condition of another cause doesn't hold then, and the rest is as it was
not_first : (b : Bool) (cause : Cause) (rows : Causes) → (cause ≡ NoStorage → ⊥) → Looks (first_cause ((b, cause) ∷ rows))
    → (b ≡ false) × (first_cause ((b, cause) ∷ rows) ≡ first_cause rows)
not_first false cause rows other h = (refl, refl)
not_first true cause rows other (inl h) = absurd (let e : ◌≡◌ {A = Option Cause} (Some cause) None = h in cc)
not_first true cause rows other (inr h) = absurd (other (let e : ◌≡◌ {A = Option Cause} (Some cause) (Some NoStorage) = h in cc))

-- the last of them
last_is : (o : Option ℕ) → Looks (first_cause ((is_none o, NoStorage) ∷ [])) → (o ≡ None) ↔ (first_cause ((is_none o, NoStorage) ∷ []) ≡ Some NoStorage)
last_is None h = ((λ e. refl), (λ e. refl))
last_is (Some n) h = ((λ e. absurd (let f : ◌≡◌ {A = Option ℕ} (Some n) None = e in cc)), (λ e. absurd (let f : ◌≡◌ {A = Option Cause} None (Some NoStorage) = e in cc)))

none_of_both : (a b : Bool) → (a || b) ≡ false → (a ≡ false) × (b ≡ false)
none_of_both true b e = absurd (true≢false e)
none_of_both false b e = (refl, e)

module _ (settings : Settings) (full : Bool) (s : State) (o : Obtain) where
  abbrev wants : Causes
  wants = (is_none (longest settings s o), NoStorage) ∷ []

  abbrev named : Causes
  named = (full, TooManyNames) ∷ wants

  abbrev bad : Causes
  bad = ((minimum o.lengths == 0) || nat_lt (maximum o.lengths) (minimum o.lengths), BadLength) ∷ named

  abbrev not_allowed : Causes
  not_allowed = (nat_lt 127 o.number, SubpoolNotAllowed) ∷ bad

  pub no_place : Looks (first_cause (obtain_causes settings full s o)) → (asks_for_place o ≡ true) × ((longest settings s o ≡ None) ↔ (first_cause (obtain_causes settings full s o) ≡ Some NoStorage))
  no_place h =
      let one = not_first ((o.number == 131) || (o.number == 132)) UnsupportedSubpool not_allowed (λ e. cc) h in
      let two = not_first (nat_lt 127 o.number) SubpoolNotAllowed bad (λ e. cc) (subst Looks one.1 h) in
      let three = not_first ((minimum o.lengths == 0) || nat_lt (maximum o.lengths) (minimum o.lengths)) BadLength named (λ e. cc) (subst Looks (one.1 ∙ two.1) h) in
      let four = not_first full TooManyNames wants (λ e. cc) (subst Looks (one.1 ∙ two.1 ∙ three.1) h) in
      let all = one.1 ∙ two.1 ∙ three.1 ∙ four.1 in
      let lengths = none_of_both (minimum o.lengths == 0) (nat_lt (maximum o.lengths) (minimum o.lengths)) three.0 in
      let last = last_is (longest settings s o) (subst Looks all h) in (
        (λ i. not (two.0 i) && not (lengths.0 i) && not (lengths.1 i)),
        ((λ k. all ∙ last.0 k), (λ k. last.1 (sym all ∙ k))),
      )

pub no_place_is_want_of_storage : NoPlaceIsWantOfStorage
no_place_is_want_of_storage settings full s o h = no_place settings full s o h
