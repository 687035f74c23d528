-- What a written statement does to the plain machine: its values are looked up, and then it is a service.
use Rattle.std.specs.Prelude.{ℕ, Bool, Option, Some, None, List, Result, Ok, Err}
use Rattle.std.specs.Option.{option_map}
use Rattle.vsm_model.specs.declared.limits.Settings.{Settings}
use Rattle.vsm_model.specs.declared.causes.Code.{Code}
use Rattle.vsm_model.specs.declared.causes.Code.TheVariants.{System}
use Rattle.vsm_model.specs.declared.causes.Family.{Family}
use Rattle.vsm_model.specs.declared.causes.Family.TheVariants.{S}
use Rattle.vsm_model.specs.declared.replies.Reply.{Reply}
use Rattle.vsm_model.specs.Bytes.{fullword, load}
use Rattle.vsm_model.specs.declared.services.Boundary.{Boundary}
use Rattle.vsm_model.specs.declared.services.Build.{Build}
use Rattle.vsm_model.specs.declared.services.Lengths.{Lengths}
use Rattle.vsm_model.specs.declared.services.Lengths.TheVariants.{Fixed, Variable}
use Rattle.vsm_model.specs.declared.services.Location.{Location}
use Rattle.vsm_model.specs.declared.services.Passed.{Passed}
use Rattle.vsm_model.specs.declared.services.Passed.TheVariants.{Nothing, Number, Listed}
use Rattle.vsm_model.specs.Forms.{formed_step}
use Rattle.vsm_model.specs.Names.{NamedState, word_of}
use Rattle.vsm_model.specs.Services as services
use Rattle.vsm_model.specs.Services.{Service}
use Rattle.vsm_model.specs.Standing.{Outcome, Accepted, Refused}
use Rattle.macro_statements.specs.Requests.{Written, number, named, register, Target, in_name, in_register, Stored}
use Rattle.macro_statements.specs.Requests.{spelled, word, WrittenLength, fixed, between}
use Rattle.macro_statements.specs.Requests.{Act, obtain, release, whole, build, get, free, delete, attach, detach, run}
use Rattle.macro_statements.specs.Requests.{end_task, poke}
use Rattle.macro_statements.specs.Requests.{WrittenSubpools, nothing, one, listed}

-- Why the plain machine refuses a statement: a name in a value isn't defined, or a service ends with a completion code.
pub data Why : Type 0 where
  unknown_name : Why
  abended : Code → Why

-- the word that a value stands for, if its name is defined; a register is one of the current task
abbrev pub looked_up : NamedState → Written → Option ℕ
looked_up m (number n) = Some n
looked_up m (named name) = word_of m.names name
looked_up m (register r) = Some (m.storage.words m.storage.current r)

-- the bytes that are stored: those that are spelled, or a value as a fullword
abbrev pub bytes_in : NamedState → Stored → Option (List ℕ)
bytes_in m (spelled bytes) = Some bytes
bytes_in m (word value) = option_map fullword (looked_up m value)

-- the name that is given the address of the area or of the cell, if one is
abbrev pub name_in : Option Target → Option (List ℕ)
name_in (Some (in_name name)) = Some name
name_in _ = None

-- the register that is given it as well as register 1, if one is
abbrev pub register_in : Option Target → Option ℕ
register_in (Some (in_register r)) = Some r
register_in _ = None

-- the service in which this many words are looked up; there is none if one of them is missing
abbrev pub with_three : (ℕ → ℕ → ℕ → Service) → Option ℕ → Option ℕ → Option ℕ → Option Service
with_three f (Some a) (Some b) (Some c) = Some (f a b c)
with_three f _ _ _ = None

abbrev pub with_bytes : Option ℕ → Option (List ℕ) → Option Service
with_bytes (Some address) (Some bytes) = Some (services.store address bytes)
with_bytes _ _ = None

-- the length of an area with the words of its bounds
abbrev pub lengths_with : Option ℕ → Option ℕ → Option Lengths
lengths_with (Some maximum) (Some minimum) = Some (Variable maximum minimum)
lengths_with _ _ = None

abbrev pub lengths_asked : NamedState → WrittenLength → Option Lengths
lengths_asked m (fixed length) = option_map Fixed (looked_up m length)
lengths_asked m (between maximum minimum) = lengths_with (looked_up m maximum) (looked_up m minimum)

-- an area from a subpool
abbrev pub with_lengths : (Lengths → ℕ → Service) → Option Lengths → Option ℕ → Option Service
with_lengths f (Some lengths) (Some subpool) = Some (f lengths subpool)
with_lengths f _ _ = None

abbrev pub area_asked : Option ℕ → Boundary → Location → Bool → Lengths → ℕ → Service
area_asked r boundary location conditional lengths subpool =
    services.obtain
    (record {
      lengths = lengths;
      number = subpool;
      boundary = boundary;
      location = location;
      register = r;
      conditional = conditional;
    })

-- an area that is released
abbrev pub area_back : Bool → ℕ → ℕ → ℕ → Service
area_back conditional bytes first subpool =
    services.release
    (record { length = bytes; address = first; number = subpool; conditional = conditional })

-- a number that may be left out
abbrev pub left_or_looked_up : NamedState → Option Written → Option (Option ℕ)
left_or_looked_up m None = Some None
left_or_looked_up m (Some value) = option_map Some (looked_up m value)

-- the numbers of a new cell pool: its first cells and further ones, the size of a cell and the subpool
abbrev pub with_cells : Location → Option ℕ → Option (Option ℕ) → Option ℕ → Option ℕ → Option Build
with_cells location (Some primary) (Some secondary) (Some size) (Some subpool) =
    Some
    (record { primary = primary; secondary = secondary; size = size; number = subpool; location = location })
with_cells location _ _ _ _ = None

-- a cell of a cell pool
abbrev pub cell_asked : List ℕ → Option ℕ → Bool → Service
cell_asked pool r conditional = services.get pool (record { register = r; conditional = conditional })

-- the subpools that a new task is given, or that it shares, with the word of their number or of their list's address
abbrev pub passed_asked : NamedState → WrittenSubpools → Option Passed
passed_asked m nothing = Some Nothing
passed_asked m (one n) = option_map Number (looked_up m n)
passed_asked m (listed address) = option_map Listed (looked_up m address)

-- a new task
abbrev pub with_passed : Bool → Option Passed → Option Passed → Option Service
with_passed shares_zero (Some given) (Some shared) =
    Some (services.attach (record { given = given; shared = shared; shares_zero = shares_zero }))
with_passed shares_zero _ _ = None

-- The service that a statement asks for, with the words of its values; there is none if one of its names isn't defined.
abbrev pub service_asked : NamedState → Act → Option Service
service_asked m (obtain length subpool target boundary location form) =
    with_lengths (area_asked (register_in target) boundary location form.conditional)
    (lengths_asked m length) (looked_up m subpool)
service_asked m (release length address subpool form) =
    with_three (area_back form.conditional)
    (looked_up m length) (looked_up m address) (looked_up m subpool)
service_asked m (whole subpool form) = option_map services.whole (looked_up m subpool)
service_asked m (build pool header primary secondary size subpool location) =
    option_map (services.build pool header)
    (with_cells location (looked_up m primary) (left_or_looked_up m secondary) (looked_up m size) (looked_up m subpool))
service_asked m (get pool target conditional) = Some (cell_asked pool (register_in target) conditional)
service_asked m (free pool cell) = option_map (services.free pool) (looked_up m cell)
service_asked m (delete pool) = Some (services.delete pool)
service_asked m (attach given shared shares_zero) =
    with_passed shares_zero (passed_asked m given) (passed_asked m shared)
service_asked m (detach task) = option_map services.detach (looked_up m task)
service_asked m (run task) = option_map services.run (looked_up m task)
service_asked m end_task = Some services.end_task
service_asked m (poke address content) = with_bytes (looked_up m address) (bytes_in m content)

-- the name that is given the address of the area or of the cell that a statement obtains, if it names one; no other
-- statement has a place for an address
abbrev pub name_asked : Act → Option (List ℕ)
name_asked (obtain length subpool target boundary location form) = name_in target
name_asked (get pool target conditional) = name_in target
name_asked _ = None

-- The family of a statement's completion codes, by its form. Any other statement has no form: those of CPOOL are the
-- codes of STORAGE, and those of a statement on tasks or of the bench's own are the same in each family.
abbrev pub family_asked : Act → Family
family_asked (obtain length subpool target boundary location form) = form.family
family_asked (release length address subpool form) = form.family
family_asked (whole subpool form) = form.family
family_asked _ = S

-- a completion code is one of the reasons for which a statement is refused
abbrev pub or_abend : Outcome NamedState Reply Code → Outcome NamedState Reply Why
or_abend (Accepted m reply) = Accepted m reply
or_abend (Refused code) = Refused (abended code)

-- a statement whose names are all defined is its service
abbrev pub served : Settings → NamedState → Act → Option Service → Outcome NamedState Reply Why
served settings m x None = Refused unknown_name
served settings m x (Some service) =
    or_abend
    (formed_step settings m
    (record { family = family_asked x; asked = record { service = service; name = name_asked x } }))

abbrev pub statement_step : Settings → NamedState → Act → Outcome NamedState Reply Why
statement_step settings m x = served settings m x (service_asked m x)

-- bytes that are loaded, or if one of them is missing the completion code of a reference to it, 0C4
abbrev pub or_abended : Option (List ℕ) → Result (List ℕ) Why
or_abended None = Err (abended (System 0x0c4))
or_abended (Some bytes) = Ok bytes

-- the count bytes at an address that is looked up
abbrev pub loaded_at : NamedState → Option ℕ → ℕ → Result (List ℕ) Why
loaded_at m None count = Err unknown_name
loaded_at m (Some address) count = or_abended (load m.storage address count)

-- What a reading of this many bytes shows, or why it is refused. It changes nothing.
abbrev pub shown_at : NamedState → Written → ℕ → Result (List ℕ) Why
shown_at m address count = loaded_at m (looked_up m address) count
