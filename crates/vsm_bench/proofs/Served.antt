-- A statement is its service.
use Rattle.std.proofs.Common.{◌≡◌, ◌⊎◌, ℕ, Bool, Option, Some, None, List, refl, sym, ap, ◌∙◌, inl, inr}
use Rattle.vsm_model.specs.declared.causes.Cause.{Cause}
use Rattle.vsm_model.specs.declared.limits.Settings.{Settings}
use Rattle.vsm_model.specs.declared.replies.Reply.{Reply}
use Rattle.vsm_model.specs.Causes.{first_cause}
use Rattle.vsm_model.specs.Codes.{completion_code}
use Rattle.vsm_model.specs.Forms.{with_code}
use Rattle.vsm_model.specs.Names.{NamedState, is_one_too_many, names_after, named}
use Rattle.vsm_model.specs.Services.{Service}
use Rattle.vsm_model.specs.State.{State}
use Rattle.vsm_model.specs.Standing.{Outcome, Accepted, Refused}
use Rattle.vsm_model.specs.Step.{step, causes}
use Rattle.vsm_model.proofs.Chosen.{refused_for_the_first}
use Rattle.macro_reader.specs.Requests.{Act}
use Rattle.bench_core.specs.Machine.{Why, unknown_name, abended, or_abend, served, service_asked, name_asked, family_asked}
use Rattle.vsm_bench.specs.Served.{AcceptedIsItsService, RefusedHasItsCause}

abbrev Told : Type 0
Told = Outcome NamedState Reply Why

told_state : (m n : NamedState) (q r : Reply) → ◌≡◌ {A = Told} (Accepted m q) (Accepted n r) → (m ≡ n) × (q ≡ r)
told_state m n q r e =
    let state : m ≡ n = cc in
    let reply : q ≡ r = cc in
    (state, reply)

told_apart : (why : Why) (n : NamedState) (r : Reply) → ◌≡◌ {A = Told} (Refused why) (Accepted n r) → ⊥
told_apart why n r e = cc

told_why : (why other : Why) → ◌≡◌ {A = Told} (Refused why) (Refused other) → why ≡ other
told_why why other e = cc

module _ (settings : Settings) (m : NamedState) (x : Act) where
  abbrev Full : Bool
  Full = is_one_too_many m.names (name_asked x)

  abbrev Coded : Service → Outcome State Reply Cause → Told
  Coded service o = or_abend (with_code (family_asked x) service (named m.names (name_asked x) o))

  accepted_outcome : (service : Service) (o : Outcome State Reply Cause) (n : NamedState) (r : Reply) → Coded service o ≡ Accepted n r →
      (o ≡ Accepted n.storage r) × (n.names ≡ names_after m.names (name_asked x) r)
  accepted_outcome service (Accepted s q) n r e =
      let is = told_state (record { storage = s; names = names_after m.names (name_asked x) q }) n q r e in (
        (λ i. Accepted (ap (λ (k : NamedState). k.storage) is.0 i) (is.1 i)),
        sym (ap (λ (k : NamedState). k.names) is.0) ∙ ap (names_after m.names (name_asked x)) is.1,
      )
  accepted_outcome service (Refused cause) n r e = absurd (told_apart _ n r e)

  refused_outcome : (service : Service) (o : Outcome State Reply Cause) (why : Why) → Coded service o ≡ Refused why →
      (cause : Cause) × (o ≡ Refused cause) × (why ≡ abended (completion_code (family_asked x) service cause))
  refused_outcome service (Accepted s q) why e = absurd (told_apart why _ q (sym e))
  refused_outcome service (Refused cause) why e = (cause, refl, sym (told_why _ why e))

  accepted_by : (o : Option Service) (n : NamedState) (r : Reply) → served settings m x o ≡ Accepted n r →
      (service : Service) × (o ≡ Some service) × (step settings Full m.storage service ≡ Accepted n.storage r)
      × (n.names ≡ names_after m.names (name_asked x) r)
  accepted_by None n r e = absurd (told_apart unknown_name n r e)
  accepted_by (Some service) n r e =
      let is = accepted_outcome service (step settings Full m.storage service) n r e in (service, refl, is.0, is.1)

  refused_by : (o : Option Service) (why : Why) → served settings m x o ≡ Refused why →
      ((why ≡ unknown_name) × (o ≡ None))
      ⊎ ((service : Service) × (cause : Cause) × (o ≡ Some service)
      × (first_cause (causes settings Full m.storage service) ≡ Some cause)
      × (why ≡ abended (completion_code (family_asked x) service cause)))
  refused_by None why e = inl (sym (told_why unknown_name why e), refl)
  refused_by (Some service) why e =
      let is = refused_outcome service (step settings Full m.storage service) why e in
      inr (service, is.0, refl, refused_for_the_first settings Full m.storage service is.0 is.1, is.2)

pub accepted_is_its_service : AcceptedIsItsService
accepted_is_its_service settings m n x r e = accepted_by settings m x (service_asked m x) n r e

pub refused_has_its_cause : RefusedHasItsCause
refused_has_its_cause settings m x why e = refused_by settings m x (service_asked m x) why e
