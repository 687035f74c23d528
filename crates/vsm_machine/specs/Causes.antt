-- The first cause of a statement, also if it returns 4.
use Rattle.std.specs.Prelude.{◌≡◌, ◌⊎◌, Bool, false, Option, Some, None, IsSome, Result, Ok, Err}
use Rattle.vsm_model.specs.declared.causes.Cause.{Cause}
use Rattle.vsm_model.specs.Causes.{first_cause}
use Rattle.vsm_model.specs.Names.{is_one_too_many}
use Rattle.vsm_model.specs.Services.{Service, obtain, release, whole, attach, detach, end_task, run, store, build, get}
use Rattle.vsm_model.specs.Services.{free, delete}
use Rattle.vsm_model.specs.Step.{causes}
use Rattle.macro_statements.specs.Requests.{Act}
use Rattle.vsm_machine.specs.Changes.{MachineState, named_of}
use Rattle.vsm_machine.specs.Machine.{name_asked, service_asked}
use Rattle.vsm_machine.specs.declared.causes.UnknownName.{UnknownName}

-- The same service, not conditional; except GET, whose causes would differ: with no free cell a conditional GET asks
-- for no extent.
abbrev pub unconditional : Service → Service
unconditional (obtain o) = obtain (record o { conditional = false })
unconditional (release r) = release (record r { conditional = false })
unconditional (whole number) = whole number
unconditional (attach a) = attach a
unconditional (detach task) = detach task
unconditional end_task = end_task
unconditional (run task) = run task
unconditional (store address bytes) = store address bytes
unconditional (build name header b) = build name header b
unconditional (get name g) = get name g
unconditional (free name cell) = free name cell
unconditional (delete name) = delete name

-- it is a GET in its conditional form
abbrev pub is_conditional_get : Service → Bool
is_conditional_get (get name g) = g.conditional
is_conditional_get _ = false

-- A statement whose names are all defined is this service, of whose causes this is the first that holds, or none holds
-- (a conditional GET may then have returned 4); or a name of it isn't defined.
abbrev pub IsCause : MachineState → Act → Result (Option Cause) UnknownName → Type 0
IsCause m x (Ok cause) =
    (service : Service) × (service_asked (named_of m) x ≡ Some service)
    × (IsSome cause ⊎ (is_conditional_get service ≡ false)
    → first_cause (causes m.settings (is_one_too_many m.names (name_asked x)) (named_of m).storage service) ≡ cause)
IsCause m x (Err unknown) = service_asked (named_of m) x ≡ None
