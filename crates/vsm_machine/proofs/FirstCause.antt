-- The first cause of a service, by the outcome of its unconditional form.
use Rattle.std.proofs.Common.{◌≡◌, Bool, true, false, ◌&&◌, if◌then◌else◌, Option, Some, None, ◌⊎◌, inl, inr, true≢false, refl, sym, ap, ◌∙◌, subst}
use Rattle.vsm_model.specs.declared.causes.Cause.{Cause}
use Rattle.vsm_model.specs.declared.limits.Settings.{Settings}
use Rattle.vsm_model.specs.Causes.{first_cause}
use Rattle.vsm_model.specs.Services.{Service, obtain, release, whole, attach, detach, end_task, run, store, build, get, free, delete, is_conditional}
use Rattle.vsm_model.specs.Standing as outcome
use Rattle.vsm_model.specs.Standing.{Refused}
use Rattle.vsm_model.specs.State.{State}
use Rattle.vsm_model.specs.Step.{answered, causes, step}
use Rattle.vsm_model.proofs.Chosen.{refused_for_the_first}
use Rattle.storage_core.specs.Planned.{CanBePlanned}
use Rattle.vsm_machine.specs.Causes.{unconditional, is_conditional_get}

-- it has the same causes,
pub same_causes : (settings : Settings) (full : Bool) (s : State) (x : Service) → causes settings full s (unconditional x) ≡ causes settings full s x
same_causes settings full s (obtain o) = refl
same_causes settings full s (release r) = refl
same_causes settings full s (whole number) = refl
same_causes settings full s (attach a) = refl
same_causes settings full s (detach task) = refl
same_causes settings full s end_task = refl
same_causes settings full s (run task) = refl
same_causes settings full s (store address bytes) = refl
same_causes settings full s (build name header b) = refl
same_causes settings full s (get name g) = refl
same_causes settings full s (free name cell) = refl
same_causes settings full s (delete name) = refl

not_conditional : (x : Service) → is_conditional_get x ≡ false → is_conditional (unconditional x) ≡ false
not_conditional (obtain o) h = refl
not_conditional (release r) h = refl
not_conditional (whole number) h = refl
not_conditional (attach a) h = refl
not_conditional (detach task) h = refl
not_conditional end_task h = refl
not_conditional (run task) h = refl
not_conditional (store address bytes) h = refl
not_conditional (build name header b) h = refl
not_conditional (get name g) h = h
not_conditional (free name cell) h = refl
not_conditional (delete name) h = refl

-- can be planned if it can,
pub still_planned : (x : Service) → CanBePlanned x → CanBePlanned (unconditional x)
still_planned (obtain o) h = h
still_planned (release r) h = h
still_planned (whole number) h = h
still_planned (attach a) h = h
still_planned (detach task) h = h
still_planned end_task h = h
still_planned (run task) h = h
still_planned (store address bytes) h = h
still_planned (build name header b) h = h
still_planned (get name g) h = h
still_planned (free name cell) h = h
still_planned (delete name) h = h

-- and is refused if there is one.
none_holds : (settings : Settings) (s : State) (x : Service) (cause : Option Cause) → is_conditional x ≡ false →
    outcome.IsAccepted (answered settings s x cause) → cause ≡ None
none_holds settings s x None plain h = refl
none_holds settings s x (Some cause) plain h = absurd (subst (λ b. outcome.IsAccepted (if b && Rattle.vsm_model.specs.Causes.answers_four cause then Rattle.vsm_model.specs.Step.replied x (s, Rattle.vsm_model.specs.declared.replies.Reply.TheVariants.Returned 4) else Refused cause)) plain h)

pub cause_none : (settings : Settings) (full : Bool) (s : State) (x : Service) → outcome.IsAccepted (step settings full s (unconditional x)) →
    (false ≡ true) ⊎ (is_conditional_get x ≡ false) → first_cause (causes settings full s x) ≡ None
cause_none settings full s x h (inl some) = absurd (true≢false (sym some))
cause_none settings full s x h (inr plain) =
    ap first_cause (sym (same_causes settings full s x))
    ∙ none_holds settings s (unconditional x) (first_cause (causes settings full s (unconditional x))) (not_conditional x plain) h

pub cause_some : (settings : Settings) (full : Bool) (s : State) (x : Service) (cause : Cause) → step settings full s (unconditional x) ≡ Refused cause →
    first_cause (causes settings full s x) ≡ Some cause
cause_some settings full s x cause h =
    ap first_cause (sym (same_causes settings full s x)) ∙ refused_for_the_first settings full s (unconditional x) cause h
