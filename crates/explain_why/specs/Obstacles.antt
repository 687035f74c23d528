-- What keeps a statement from its effect, and which line before it brought that.
use Rattle.std.specs.Prelude.{◌≡◌, ℕ, Bool, true, false, not, if◌then◌else◌, List, [], ◌∷◌, codes, decimal}
use Rattle.std.specs.Prelude.{Option, Some, None, option_map, unwrap_or}
use Rattle.vsm_model.specs.declared.causes.Cause.{Cause}
use Rattle.vsm_model.specs.declared.causes.Cause.TheVariants.{NoStorage, NotInUse}
use Rattle.vsm_model.specs.declared.limits.Settings.{Settings}
use Rattle.vsm_model.specs.declared.services.Obtain.{Obtain}
use Rattle.vsm_model.specs.Causes.{first_cause}
use Rattle.vsm_model.specs.Names.{NamedState, is_one_too_many}
use Rattle.vsm_model.specs.Services.{Service, obtain, release, whole, attach, detach, end_task, run, store, build, get}
use Rattle.vsm_model.specs.Services.{free, delete}
use Rattle.vsm_model.specs.Search.{holds}
use Rattle.vsm_model.specs.State.{State}
use Rattle.vsm_model.specs.Step.{causes}
use Rattle.vsm_model.specs.Texts.{hexadecimal}
use Rattle.macro_statements.specs.Requests.{Act, Asked, act, asked_in, back, forward, map_asked, peek, IsValidAct}
use Rattle.vsm_machine.specs.Machine.{name_asked, service_asked}
use Rattle.script_steps.specs.Output.{Marked}
use Rattle.script_steps.specs.Taken.{Ended}
use Rattle.explain_text.specs.Pieces.{line}
use Rattle.explain_reasons.specs.Releases.{deciding_address}
use Rattle.explain_who.specs.Taken.{cell_at, is_taken, taken_at}
use Rattle.explain_who.specs.declared.takers.Taken.{Taken}
use Rattle.explain_who.specs.declared.takers.Taken.TheVariants as taken
use Rattle.explain_standing.specs.Since.{machine_after, since}
use Rattle.explain_standing.specs.Lined.{standing}
use Rattle.explain_why.specs.declared.ahead.NextStatement as ahead
use Rattle.explain_why.specs.declared.ahead.NextStatement.TheVariants as variant
use Rattle.explain_why.specs.declared.obstacles.Obstacle.{Obstacle}
use Rattle.explain_why.specs.declared.obstacles.Obstacle.TheVariants as obstacle
use Rattle.explain_why.specs.declared.obstacles.Bringer.{Bringer}

-- ---- in a state

-- an address lies in a cell in use
abbrev pub is_used_cell : Taken → Bool
is_used_cell (taken.UsedCell name) = true
is_used_cell _ = false

abbrev pub is_no_storage : Cause → Bool
is_no_storage NoStorage = true
is_no_storage _ = false

abbrev pub is_not_in_use : Cause → Bool
is_not_in_use NotInUse = true
is_not_in_use _ = false

-- there is no room for an area
abbrev pub lacks_room : Settings → State → Obtain → Bool
lacks_room settings s o = holds is_no_storage (first_cause (causes settings false s (obtain o)))

-- The obstacle is there: its address is taken, or isn't; it lies in a cell in use, or doesn't; or an area has no room.
abbrev pub is_there : Settings → Obstacle → State → Bool
is_there settings (obstacle.Taken address) s = is_taken (taken_at s address)
is_there settings (obstacle.Untaken address) s = not (is_taken (taken_at s address))
is_there settings (obstacle.UsedCell address) s = is_used_cell (taken_at s address)
is_there settings (obstacle.FreeCell address) s = not (is_used_cell (taken_at s address))
is_there settings (obstacle.NoRoom o) s = lacks_room settings s o

-- ---- by the cause of a service

-- an area at an address is an obstacle, or that none is
abbrev pub area_obstacle : ℕ → Taken → Obstacle
area_obstacle address its = if is_taken its then obstacle.Taken address else obstacle.Untaken address

-- the address of the cell in which an address lies; the address itself if it lies in none
abbrev pub cell_of : State → ℕ → ℕ
cell_of s address = unwrap_or (cell_at address s.cell_pools) address

-- the cell in which an address lies is one, or what is there in place of a cell
abbrev pub cell_obstacle : State → ℕ → Taken → Obstacle
cell_obstacle s address (taken.UsedCell name) = obstacle.UsedCell (cell_of s address)
cell_obstacle s address (taken.FreeCell name) = obstacle.FreeCell (cell_of s address)
cell_obstacle s address taken.Unassigned = obstacle.Untaken address
cell_obstacle s address taken.Free = obstacle.Untaken address
cell_obstacle s address (taken.Obtained p) = obstacle.Taken address
cell_obstacle s address (taken.PastCells name) = obstacle.Taken address

abbrev pub obtain_obstacle : Obtain → Cause → Option Obstacle
obtain_obstacle o cause = if is_no_storage cause then Some (obstacle.NoRoom o) else None

abbrev pub free_obstacle : State → ℕ → Cause → Option Obstacle
free_obstacle s cell cause = if is_not_in_use cause then Some (cell_obstacle s cell (taken_at s cell)) else None

-- of a service that is refused for a cause: of an obtain, a release and a FREE
abbrev pub obstacle_in : Settings → State → Service → Cause → Option Obstacle
obstacle_in settings s (obtain o) cause = obtain_obstacle o cause
obstacle_in settings s (release r) cause =
    option_map (λ address. area_obstacle address (taken_at s address)) (deciding_address settings s r cause)
obstacle_in settings s (free name cell) cause = free_obstacle s cell cause
obstacle_in settings s (whole number) cause = None
obstacle_in settings s (attach a) cause = None
obstacle_in settings s (detach task) cause = None
obstacle_in settings s end_task cause = None
obstacle_in settings s (run task) cause = None
obstacle_in settings s (store address bytes) cause = None
obstacle_in settings s (build name header b) cause = None
obstacle_in settings s (get name g) cause = None
obstacle_in settings s (delete name) cause = None

abbrev pub obstacle_by : Settings → State → Service → Option Cause → Option Obstacle
obstacle_by settings s service None = None
obstacle_by settings s service (Some cause) = obstacle_in settings s service cause

-- of a statement, if each name in its values is defined: by the first cause of the service that it asks for
abbrev pub obstacle_served : Settings → NamedState → Act → Option Service → Option Obstacle
obstacle_served settings m x None = None
obstacle_served settings m x (Some service) =
    obstacle_by settings m.storage service
    (first_cause (causes settings (is_one_too_many m.names (name_asked x)) m.storage service))

abbrev pub obstacle_asked : Settings → NamedState → Act → Option Obstacle
obstacle_asked settings m x = obstacle_served settings m x (service_asked m x)

-- ---- which line brought it

-- The line of the newest of these statements after which a test holds, and before which it didn't; none if it doesn't
-- hold after all of them. The newest is first.
abbrev pub last_change : Settings → (State → Bool) → List (ℕ × Act) → Option ℕ
last_change settings test [] = None
last_change settings test (x ∷ older) =
    since (test (machine_after settings (x ∷ older)).storage) (test (machine_after settings older).storage) x.0
    (last_change settings test older)

-- the line that brought an obstacle after a script with these answers, with the obstacle
abbrev pub bringer_after : Settings → Obstacle → List Marked → Option Bringer
bringer_after settings its answers =
    option_map (λ n. record { line = n; obstacle = its })
    (last_change settings (is_there settings its) (standing settings answers))

-- It's that of an obstacle after a script; none if there's no obstacle.
abbrev pub IsBringerOf : Settings → List ℕ → Option Obstacle → Option Bringer → Type 0
IsBringerOf settings script None bringer = bringer ≡ None
IsBringerOf settings script (Some its) bringer =
    (answers : List Marked) × Ended settings script answers × (bringer ≡ bringer_after settings its answers)

-- the same for what a request asks for in a state
abbrev pub IsRequestBringer : Settings → NamedState → List ℕ → Asked → Option Bringer → Type 0
IsRequestBringer settings m script (act x) bringer =
    IsValidAct x → IsBringerOf settings script (obstacle_asked settings m x) bringer
IsRequestBringer settings m script (peek address count) bringer = bringer ≡ None
IsRequestBringer settings m script (back n) bringer = bringer ≡ None
IsRequestBringer settings m script (forward n) bringer = bringer ≡ None
IsRequestBringer settings m script map_asked bringer = bringer ≡ None

-- and for what the lines from a place on ask for
abbrev pub IsItsBringer : Settings → NamedState → List ℕ → ahead.NextStatement → Option Bringer → Type 0
IsItsBringer settings m script (variant.Request request) bringer =
    IsRequestBringer settings m script (asked_in request) bringer
IsItsBringer settings m script (variant.Fault kind) bringer = bringer ≡ None
IsItsBringer settings m script variant.Open bringer = bringer ≡ None
IsItsBringer settings m script variant.Aside bringer = bringer ≡ None

-- ---- the text

-- what a line did at an address
abbrev pub did_text : ℕ → List ℕ → ℕ → List ℕ
did_text n did address = line (codes "line " ∷ decimal n ∷ did ∷ hexadecimal 8 address ∷ [])

abbrev pub brought_text : ℕ → Obstacle → List ℕ
brought_text n (obstacle.Taken address) = did_text n (codes " obtained what is at ") address
brought_text n (obstacle.Untaken address) = did_text n (codes " released what was at ") address
brought_text n (obstacle.UsedCell address) = did_text n (codes " got the cell at ") address
brought_text n (obstacle.FreeCell address) = did_text n (codes " freed the cell at ") address
brought_text n (obstacle.NoRoom o) =
    line (codes "line " ∷ decimal n ∷ codes " took the last room for it: it fitted before" ∷ [])

-- of the line that brought an obstacle, if one did
abbrev pub bringer_text : Option Bringer → List ℕ
bringer_text None = []
bringer_text (Some bringer) = brought_text bringer.line bringer.obstacle
