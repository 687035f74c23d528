-- What a statement does to the machine, by its service.
use Rattle.std.specs.Prelude.{◌≡◌, ◌⊎◌, Option, Some, None}
use Rattle.vsm_model.specs.declared.causes.Cause.{Cause}
use Rattle.vsm_model.specs.declared.limits.Settings.{Settings}
use Rattle.vsm_model.specs.declared.replies.Reply.{Reply}
use Rattle.vsm_model.specs.Causes.{first_cause}
use Rattle.vsm_model.specs.Codes.{completion_code}
use Rattle.vsm_model.specs.Names.{NamedState, is_one_too_many, names_after}
use Rattle.vsm_model.specs.Services.{Service}
use Rattle.vsm_model.specs.Standing.{Accepted, Refused}
use Rattle.vsm_model.specs.Step.{step, causes}
use Rattle.macro_reader.specs.Requests.{Act}
use Rattle.bench_core.specs.Machine.{Why, unknown_name, abended, service_asked, name_asked, family_asked}
use Rattle.bench_core.specs.Machine.{statement_step}

-- An accepted statement does to the storage what its service does, and gives the address of its area or cell to the
-- name that it names.
abbrev pub AcceptedIsItsService : Type 0
AcceptedIsItsService =
    (settings : Settings) (m n : NamedState) (x : Act) (reply : Reply) →
    statement_step settings m x ≡ Accepted n reply →
    (service : Service) × (service_asked m x ≡ Some service)
    × (step settings (is_one_too_many m.names (name_asked x)) m.storage service ≡ Accepted n.storage reply)
    × (n.names ≡ names_after m.names (name_asked x) reply)

-- A refused one has a name that isn't defined; or its service is refused for the first of its causes that holds, with
-- the completion code of the statement's form.
abbrev pub RefusedHasItsCause : Type 0
RefusedHasItsCause =
    (settings : Settings) (m : NamedState) (x : Act) (why : Why) → statement_step settings m x ≡ Refused why →
    ((why ≡ unknown_name) × (service_asked m x ≡ None))
    ⊎ ((service : Service) × (cause : Cause) × (service_asked m x ≡ Some service)
    × (first_cause (causes settings (is_one_too_many m.names (name_asked x)) m.storage service) ≡ Some cause)
    × (why ≡ abended (completion_code (family_asked x) service cause)))
