-- The terms of the worked examples: settings, calls with few operands, answers, and what is looked at after a list of
-- calls. A search for a place is computed number by number, so some examples have smaller regions than the default
-- settings.
use Rattle.std.specs.Prelude.{ℕ, ◌+◌, ◌*◌, Bool, true, false, Option, Some, None, List, map, flat_map, codes, length}
use Rattle.vsm_model.specs.declared.causes.Code.{Code}
use Rattle.vsm_model.specs.declared.causes.Code.TheVariants.{System, User}
use Rattle.vsm_model.specs.declared.causes.Family.{Family}
use Rattle.vsm_model.specs.declared.causes.Family.TheVariants.{S}
use Rattle.vsm_model.specs.declared.limits.Settings.{Settings}
use Rattle.vsm_model.specs.declared.replies.Reply.{Reply}
use Rattle.vsm_model.specs.declared.replies.Reply.TheVariants.{Obtained, Returned, Cell, Attached, Turn}
use Rattle.vsm_model.specs.declared.services.Lengths.TheVariants.{Fixed, Variable}
use Rattle.vsm_model.specs.declared.services.Boundary.TheVariants.{Doubleword}
use Rattle.vsm_model.specs.declared.services.Location.{Location}
use Rattle.vsm_model.specs.declared.services.Location.TheVariants.{Caller}
use Rattle.vsm_model.specs.declared.services.Passed.{Passed}
use Rattle.vsm_model.specs.declared.services.Obtain.{Obtain}
use Rattle.vsm_model.specs.declared.services.Release.{Release}
use Rattle.vsm_model.specs.declared.services.Build.{Build}
use Rattle.vsm_model.specs.declared.services.Get.{Get}
use Rattle.vsm_model.specs.Services.{Service, obtain, release, whole, attach, detach, end_task, run, store, build, get}
use Rattle.vsm_model.specs.Services.{free, delete}
use Rattle.vsm_model.specs.Bytes.{load}
use Rattle.vsm_model.specs.Standing.{Call, Apply, Answer, Replied, RefusedFor, Bench, new_bench, plain_after_all}
use Rattle.vsm_model.specs.Standing.{plain_answers}
use Rattle.vsm_model.specs.Names.{NamedState, first_named_state, word_of}
use Rattle.vsm_model.specs.Forms.{FormedService, formed_step}
use Rattle.vsm_model.specs.Map.{line, map_text}
use Rattle.vsm_model.specs.declared.limits.Residence.TheVariants as residence

-- regions of this many pages below and above the line, for a caller that resides below it
abbrev pub pages : ℕ → ℕ → Settings
pages low high = record { low_k = 4 * low; high_k = 4 * high; residence = residence.Below; history = 1024 }

-- the default settings
abbrev pub standard : Settings
standard = pages 16 16

-- these, with a history of this many changes
abbrev pub with_history : ℕ → Settings
with_history changes = record standard { history = changes }

-- what a bench answers to these calls, with the numbers of changes that are kept and undone after each
abbrev pub counted_answers : Settings → List (Call FormedService) → List (Answer Reply Code × (ℕ × ℕ))
counted_answers settings calls =
    plain_answers (formed_step settings) settings.history (new_bench first_named_state) calls

-- the same without the numbers
abbrev pub answers : Settings → List (Call FormedService) → List (Answer Reply Code)
answers settings calls = map (λ row. row.0) (counted_answers settings calls)

-- the bench after these calls, and its machine
abbrev pub bench_after : Settings → List (Call FormedService) → Bench NamedState
bench_after settings calls =
    plain_after_all (formed_step settings) settings.history (new_bench first_named_state) calls

abbrev pub after : Settings → List (Call FormedService) → NamedState
after settings calls = (bench_after settings calls).present

-- the address of a byte of a page
abbrev pub address : ℕ → ℕ → ℕ
address page offset = 4096 * page + offset

-- the first page of the high region
abbrev pub high : ℕ
high = 32768

-- a service in a form of a family
abbrev pub asks : Family → Service → Call FormedService
asks family x = Apply (record { family = family; asked = record { service = x; name = None } })

-- the same, with a name for the address
abbrev pub asks_with_name : Family → List ℕ → Service → Call FormedService
asks_with_name family name x = Apply (record { family = family; asked = record { service = x; name = Some name } })

-- this many bytes from a subpool, on a doubleword, where the caller resides
abbrev pub area : ℕ → ℕ → Obtain
area length number =
    record {
      lengths = Fixed length;
      number = number;
      boundary = Doubleword;
      location = Caller;
      register = None;
      conditional = false;
    }

-- the longest area from subpool 0 between two lengths
abbrev pub variable : ℕ → ℕ → Obtain
variable most least = record (area 8 0) { lengths = Variable most least }

-- STORAGE OBTAIN of this many bytes from a subpool, and with COND=YES
abbrev pub storage_obtain : ℕ → ℕ → Call FormedService
storage_obtain length number = asks S (obtain (area length number))

abbrev pub conditional_obtain : ℕ → ℕ → Call FormedService
conditional_obtain length number = asks S (obtain (record (area length number) { conditional = true }))

-- GETMAIN RU of this many bytes from subpool 0 with LOC
abbrev pub getmain : ℕ → Location → Call FormedService
getmain length location = asks S (obtain (record (area length 0) { location = location }))

-- this many bytes at an address, to a subpool
abbrev pub given_back : ℕ → ℕ → ℕ → Release
given_back length at number = record { length = length; address = at; number = number; conditional = false }

-- STORAGE RELEASE, and with COND=YES
abbrev pub storage_release : ℕ → ℕ → ℕ → Call FormedService
storage_release length at number = asks S (release (given_back length at number))

abbrev pub conditional_release : ℕ → ℕ → ℕ → Call FormedService
conditional_release length at number = asks S (release (record (given_back length at number) { conditional = true }))

-- the release of a whole subpool
abbrev pub release_whole : ℕ → Call FormedService
release_whole number = asks S (whole number)

abbrev pub poke : ℕ → List ℕ → Call FormedService
poke at bytes = asks S (store at bytes)

-- ATTACH that gives and shares subpools; DETACH, ENDTASK and RUN
abbrev pub attach_task : Passed → Passed → Call FormedService
attach_task given shared = asks S (attach (record { given = given; shared = shared; shares_zero = true }))

abbrev pub detach_task : ℕ → Call FormedService
detach_task task = asks S (detach task)

abbrev pub end_of_task : Call FormedService
end_of_task = asks S end_task

abbrev pub run_task : ℕ → Call FormedService
run_task task = asks S (run task)

-- CPOOL of a cell pool CP: BUILD without a header, GET and GET with COND=YES, FREE, DELETE
abbrev pub pool_name : List ℕ
pool_name = codes "CP"

abbrev pub build_cells : Build → Call FormedService
build_cells b = asks S (build pool_name None b)

-- this many cells in each extent, of a size in bytes, from a subpool
abbrev pub cells : ℕ → ℕ → ℕ → Build
cells count size number =
    record { primary = count; secondary = None; size = size; number = number; location = Caller }

abbrev pub get_operands : Bool → Get
get_operands conditional = record { register = None; conditional = conditional }

abbrev pub get_cell : Call FormedService
get_cell = asks S (get pool_name (get_operands false))

abbrev pub conditional_get : Call FormedService
conditional_get = asks S (get pool_name (get_operands true))

abbrev pub free_cell : ℕ → Call FormedService
free_cell cell = asks S (free pool_name cell)

abbrev pub delete_cells : Call FormedService
delete_cells = asks S (delete pool_name)

-- answers: an area, a return code, a cell, a new task, a task's turn, and completion codes
abbrev pub granted : ℕ → ℕ → Answer Reply Code
granted at length = Replied (Obtained at length)

abbrev pub returned : ℕ → Answer Reply Code
returned code = Replied (Returned code)

abbrev pub cell : ℕ → Answer Reply Code
cell at = Replied (Cell at)

abbrev pub new_task : ℕ → Answer Reply Code
new_task task = Replied (Attached task)

abbrev pub turn : ℕ → Answer Reply Code
turn task = Replied (Turn task)

abbrev pub system_abend : ℕ → Answer Reply Code
system_abend code = RefusedFor (System code)

abbrev pub user_abend : ℕ → Answer Reply Code
user_abend code = RefusedFor (User code)

-- what PEEK of this many bytes at an address reads after these calls
abbrev pub peeked : Settings → List (Call FormedService) → ℕ → ℕ → Option (List ℕ)
peeked settings calls at count = load (after settings calls).storage at count

-- the word of a register of the current task after these calls
abbrev pub register_after : Settings → List (Call FormedService) → ℕ → ℕ
register_after settings calls register =
    let s = (after settings calls).storage in
    s.words s.current register

-- the word that a name stands for after these calls
abbrev pub name_after : Settings → List (Call FormedService) → List ℕ → Option ℕ
name_after settings calls name = word_of (after settings calls).names name

-- the owner of the subpool that a task sees at a number after these calls
abbrev pub owner_after : Settings → List (Call FormedService) → ℕ → ℕ → Option ℕ
owner_after settings calls task number = (after settings calls).storage.sight task number

-- the map after these calls
abbrev pub map_after : Settings → List (Call FormedService) → List ℕ
map_after settings calls =
    let b = bench_after settings calls in
    map_text settings b.present (length b.past)

-- lines of text
abbrev pub lines : List (List ℕ) → List ℕ
lines = flat_map line
