-- A conditional form differs from an unconditional one only by return code 4.
use Rattle.std.proofs.Common.{◌≡◌, Bool, true, false, if◌then◌else◌, Option, Some, None, refl, inl, inr}
use Rattle.vsm_model.specs.declared.causes.Cause.{Cause}
use Rattle.vsm_model.specs.declared.limits.Settings.{Settings}
use Rattle.vsm_model.specs.declared.replies.Reply.TheVariants.{Returned}
use Rattle.vsm_model.specs.declared.services.Obtain.{Obtain}
use Rattle.vsm_model.specs.declared.services.Release.{Release}
use Rattle.vsm_model.specs.State.{State}
use Rattle.vsm_model.specs.Causes.{first_cause, answers_four}
use Rattle.vsm_model.specs.Registers.{with_register}
use Rattle.vsm_model.specs.Services.{obtain, release}
use Rattle.vsm_model.specs.Standing.{Accepted, Refused}
use Rattle.vsm_model.specs.Step.{answered, causes}
use Rattle.service_laws.specs.GivenBack.{IsConditionalForm, ConditionalFormsDifferByFour}
use Rattle.service_laws.proofs.Registers.{code_is_all}

four_or_cause : (s : State) (cause : Cause) (b : Bool) → answers_four cause ≡ b →
    IsConditionalForm s (Refused cause) (if b then Accepted (with_register s 15 4) (Returned 4) else Refused cause)
four_or_cause s cause true e = inr (e, (with_register s 15 4, refl, code_is_all s (with_register s 15 4) 4 refl))
four_or_cause s cause false e = inl (e, refl)

obtain_form : (settings : Settings) (s : State) (o : Obtain) (c : Option Cause) →
    IsConditionalForm s (answered settings s (obtain (record o { conditional = false })) c) (answered settings s (obtain (record o { conditional = true })) c)
obtain_form settings s o None = refl
obtain_form settings s o (Some cause) = four_or_cause s cause (answers_four cause) refl

release_form : (settings : Settings) (s : State) (r : Release) (c : Option Cause) →
    IsConditionalForm s (answered settings s (release (record r { conditional = false })) c) (answered settings s (release (record r { conditional = true })) c)
release_form settings s r None = refl
release_form settings s r (Some cause) = four_or_cause s cause (answers_four cause) refl

pub conditional_forms_differ_by_four : ConditionalFormsDifferByFour
conditional_forms_differ_by_four settings names_full s = (
  λ o. obtain_form settings s o (first_cause (causes settings names_full s (obtain (record o { conditional = false })))),
  λ r. release_form settings s r (first_cause (causes settings names_full s (release (record r { conditional = false })))),
)
