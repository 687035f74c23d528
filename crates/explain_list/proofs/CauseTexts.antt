-- The text of a cause, and output that fails.
use Rattle.std.proofs.Common.{◌≡◌, ℕ, true, false, List, [], Option, Some, None, Result, Ok, Err, inl, inr, is_some, refl, sym, subst, ◌∙◌}
use Rattle.std.proofs.lemmas.List.{append-nil}
use Rattle.vsm_model.specs.declared.causes.Cause.{Cause}
use Rattle.vsm_model.specs.declared.limits.Settings.{Settings}
use Rattle.vsm_model.specs.Causes.{first_cause}
use Rattle.vsm_model.specs.Names.{NamedState, is_one_too_many}
use Rattle.vsm_model.specs.Services.{Service}
use Rattle.vsm_model.specs.Step.{causes}
use Rattle.macro_statements.specs.Requests.{Act}
use Rattle.vsm_machine.specs.Causes.{is_conditional_get}
use Rattle.vsm_machine.specs.Machine.{name_asked, service_asked}
use Rattle.bench_core.specs.Causes.{IsFirstCause}
use Rattle.explain_reasons.specs.Told.{IsTold, PutsOne, TellsService}
use Rattle.storage_core.specs.Meaning.{settings_of, state_of}
use Rattle.storage_core.specs.declared.storage.Storage.{Storage}
use Rattle.text_output.specs.Writing.{AppendsFront, Holds, Puts, Writes}
use Rattle.text_output.specs.declared.writing.Gathered.{Gathered}
use Rattle.text_output.specs.declared.writing.WriteFault.{WriteFault}
use Rattle.text_output.proofs.Gathering.{held_failed, puts_none}
use Rattle.explain_list.specs.Causes.{IsActCause}

-- ---- the cause that a bench finds

same_service : (o : Option Service) (x y : Service) → o ≡ Some x → o ≡ Some y → x ≡ y
same_service o x y e f = (let g : ◌≡◌ {A = Option Service} (Some x) (Some y) = sym e ∙ f in cc)

same_cause : (o : Option Cause) (x y : Cause) → o ≡ Some x → o ≡ Some y → x ≡ y
same_cause o x y e f = (let g : ◌≡◌ {A = Option Cause} (Some x) (Some y) = sym e ∙ f in cc)

pub same_word : (o : Option ℕ) (x y : ℕ) → o ≡ Some x → o ≡ Some y → x ≡ y
same_word o x y e f = (let g : ◌≡◌ {A = Option ℕ} (Some x) (Some y) = sym e ∙ f in cc)

pub none_is_some : {X : Type 0} (o : Option X) (x : X) → o ≡ None → o ≡ Some x → ⊥
none_is_some {X} o x e f = (let g : ◌≡◌ {A = Option X} None (Some x) = sym e ∙ f in cc)

module _ (settings : Settings) (m : NamedState) (x : Act) where
  abbrev first_of : Service → Option Cause
  first_of service = first_cause (causes settings (is_one_too_many m.names (name_asked x)) m.storage service)

  -- a name that isn't defined
  pub unknown_text : (now : Option (List ℕ)) (g : Gathered) → service_asked m x ≡ None → PutsOne (IsActCause settings m x) now now g g
  unknown_text now g none = ([], λ service cause asked plain first. absurd (none_is_some (service_asked m x) service none asked), puts_none now g)

  -- no cause
  pub none_text : (now : Option (List ℕ)) (g : Gathered) → IsFirstCause settings m x (Ok None) → PutsOne (IsActCause settings m x) now now g g
  none_text now g (its, is, none) = (
    [],
    λ service cause asked plain first.
        let same = same_service (service_asked m x) its service is asked in
        absurd (none_is_some (first_of service) cause
        (subst (λ y. first_of y ≡ None) same (none (inr (subst (λ y. is_conditional_get y ≡ false) (sym same) plain)))) first),
    puts_none now g,
  )

  -- its first cause
  pub found_text : (s : Storage) (its : Service) (c : Cause) (old new : Option (List ℕ)) (a b : Gathered) → settings_of s ≡ settings → state_of s ≡ m.storage
      → service_asked m x ≡ Some its → IsFirstCause settings m x (Ok (Some c)) → TellsService s its c old new a b → PutsOne (IsActCause settings m x) old new a b
  found_text s its c old new a b under stands is (found, found_is, holds) told =
      let also = same_service (service_asked m x) found its found_is is in
      let full = is_one_too_many m.names (name_asked x) in
      let here = subst (λ y. first_of y ≡ Some c) also (holds (inl refl)) in
      let there : first_cause (causes (settings_of s) full (state_of s) its) ≡ Some c =
      subst (λ k. first_cause (causes k full (state_of s) its) ≡ Some c) (sym under)
      (subst (λ t. first_cause (causes settings full t its) ≡ Some c) (sym stands) here) in
      let (text, says, puts) = told full there in
      let said = subst (λ t. IsTold settings t its c text) stands (subst (λ k. IsTold k (state_of s) its c text) under says) in (
        text,
        λ service cause asked plain first.
            let same = same_service (service_asked m x) its service is asked in
            let cause_is = same_cause (first_of its) c cause here (subst (λ y. first_of y ≡ Some cause) (sym same) first) in
            subst (λ y. IsTold settings m.storage y cause text) same (subst (λ k. IsTold settings m.storage its k text) cause_is said),
        puts,
      )

-- ---- output that fails

-- a prefix of it went out, or all
front_of : (first now : Option (List ℕ)) (text : List ℕ) (r : Result (Unit {0}) WriteFault) → Writes first now text r → AppendsFront first now text
front_of first now text (Ok u) h = (text, [], sym (append-nil text), h)
front_of first now text (Err e) h = h

pub failed_puts : (old new : Option (List ℕ)) (before failed : Gathered) (r : Result (Unit {0}) WriteFault) (more : List ℕ) → is_some failed.fault ≡ true
    → ((first : Option (List ℕ)) (text : List ℕ) → Holds first old before text → Writes first new text r) → Puts old new before failed more
failed_puts old new before failed r more is h = λ first text held. held_failed first new failed text more is (front_of first new text r (h first text held))
