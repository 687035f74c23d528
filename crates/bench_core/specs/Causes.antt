-- The first cause of a statement, by the settings and the state of a bench; also if the statement returns 4.
use Rattle.std.specs.Prelude.{◌≡◌, ◌⊎◌, false, Option, Some, None, IsSome, Result, Ok, Err}
use Rattle.vsm_model.specs.declared.causes.Cause.{Cause}
use Rattle.vsm_model.specs.declared.limits.Settings.{Settings}
use Rattle.vsm_model.specs.Causes.{first_cause}
use Rattle.vsm_model.specs.Names.{NamedState, is_one_too_many}
use Rattle.vsm_model.specs.Services.{Service}
use Rattle.vsm_model.specs.Step.{causes}
use Rattle.macro_statements.specs.Requests.{Act}
use Rattle.vsm_machine.specs.Causes.{is_conditional_get}
use Rattle.vsm_machine.specs.Machine.{name_asked, service_asked}
use Rattle.vsm_machine.specs.declared.causes.UnknownName.{UnknownName}

-- A statement whose names are all defined is this service, of whose causes this is the first that holds, or none holds
-- (a conditional GET may then have returned 4); or a name of it isn't defined.
abbrev pub IsFirstCause : Settings → NamedState → Act → Result (Option Cause) UnknownName → Type 0
IsFirstCause settings m x (Ok cause) =
    (service : Service) × (service_asked m x ≡ Some service)
    × (IsSome cause ⊎ (is_conditional_get service ≡ false)
    → first_cause (causes settings (is_one_too_many m.names (name_asked x)) m.storage service) ≡ cause)
IsFirstCause settings m x (Err unknown) = service_asked m x ≡ None
