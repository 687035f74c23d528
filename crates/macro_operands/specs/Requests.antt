-- What a statement asks for, as it is spelled. The values, places and contents of operands are passed on.
use Rattle.std.specs.Prelude.{◌≡◌, ℕ, ◌+◌, ◌*◌, ◌^◌, ◌<◌, ◌≤◌, length, List, Bool, true, false}
use Rattle.std.specs.Prelude.{Option, Some, None, Result, Ok, Err, IfSome, ⊤}
use Rattle.std.specs.Option.{option_map}
pub use Rattle.operand_texts.specs.Written.{Written, number, named, register, Target, in_name, in_register}
pub use Rattle.operand_texts.specs.Written.{Stored, spelled, word, written_in, target_in, stored_in}
pub use Rattle.operand_texts.specs.Written.{is_upper_name, IsValue, IsTarget, IsStored, HasBytes}
pub use Rattle.macro_operands.specs.Lengths.{is_register_0, is_named}
pub use Rattle.macro_operands.specs.Headers.{is_header}
use Rattle.macro_operands.specs.declared.faults.FaultKind.{FaultKind}
use Rattle.vsm_model.specs.declared.causes.Family.{Family}
use Rattle.vsm_model.specs.declared.causes.Family.TheVariants as family
use Rattle.vsm_model.specs.declared.services.Boundary.{Boundary}
use Rattle.vsm_model.specs.declared.services.Boundary.TheVariants.{Doubleword}
use Rattle.vsm_model.specs.declared.services.Location.{Location}
use Rattle.vsm_model.specs.declared.services.Location.TheVariants.{Low}
use Rattle.macro_operands.specs.declared.requests.Form.{Form}
use Rattle.macro_operands.specs.declared.requests.Length.{Length}
use Rattle.macro_operands.specs.declared.requests.Length.TheVariants as code_length
use Rattle.macro_operands.specs.declared.requests.Subpools.{Subpools}
use Rattle.macro_operands.specs.declared.requests.Subpools.TheVariants as code_subpools
use Rattle.macro_operands.specs.declared.requests.NewCellPool.{NewCellPool}
use Rattle.macro_operands.specs.declared.requests.Statement.{Statement}
use Rattle.macro_operands.specs.declared.requests.Statement.TheVariants as code_statement
use Rattle.macro_operands.specs.declared.requests.Request.{Request}
use Rattle.macro_operands.specs.declared.requests.Request.TheVariants as code_request

-- The length of an area: one, or `between maximum minimum`.
pub data WrittenLength : Type 0 where
  fixed : Written → WrittenLength
  between : Written → Written → WrittenLength

-- The subpools that a new task is given, or that it shares: none, one of this number, or those of a list at this
-- address.
pub data WrittenSubpools : Type 0 where
  nothing : WrittenSubpools
  one : Written → WrittenSubpools
  listed : Written → WrittenSubpools

-- A statement that changes storage, cell pools, tasks or bytes: `obtain length subpool target boundary location form`,
-- `release length address subpool form`, `whole subpool form`, `build pool header primary secondary size subpool
-- location`, `get pool target conditional`, `free pool cell`, `delete pool`, `attach given shared shares_zero`, `detach
-- task`, `run task`, `end_task`, `poke address content`.
pub data Act : Type 0 where
  obtain : WrittenLength → Written → Option Target → Boundary → Location → Form → Act
  release : Written → Written → Written → Form → Act
  whole : Written → Form → Act
  build : List ℕ → Option (List ℕ) → Written → Option Written → Written → Written → Location → Act
  get : List ℕ → Option Target → Bool → Act
  free : List ℕ → Written → Act
  delete : List ℕ → Act
  attach : WrittenSubpools → WrittenSubpools → Bool → Act
  detach : Written → Act
  run : Written → Act
  end_task : Act
  poke : Written → Stored → Act

-- What a statement asks for: also `peek address length`, the map of the storage, and this many steps.
pub data Asked : Type 0 where
  act : Act → Asked
  peek : Written → ℕ → Asked
  map_asked : Asked
  back : ℕ → Asked
  forward : ℕ → Asked

-- What the code's statement says.
abbrev pub length_in : Length → WrittenLength
length_in (code_length.Fixed length) = fixed (written_in length)
length_in (code_length.Variable maximum minimum) = between (written_in maximum) (written_in minimum)

abbrev pub subpools_in : Subpools → WrittenSubpools
subpools_in code_subpools.Nothing = nothing
subpools_in (code_subpools.Number n) = one (written_in n)
subpools_in (code_subpools.Listed address) = listed (written_in address)

abbrev pub build_in : NewCellPool → Act
build_in p =
    build p.name.bytes (option_map (λ h. h.bytes) p.header) (written_in p.primary) (option_map written_in p.secondary)
    (written_in p.size) (written_in p.subpool) p.location

abbrev pub act_in : Statement → Act
act_in (code_statement.Obtain length subpool place boundary location form) =
    obtain (length_in length) (written_in subpool) (option_map target_in place) boundary location form
act_in (code_statement.Release length address subpool form) =
    release (written_in length) (written_in address) (written_in subpool) form
act_in (code_statement.Whole subpool form) = whole (written_in subpool) form
act_in (code_statement.Build pool) = build_in pool
act_in (code_statement.GetCell pool place conditional) = get pool.bytes (option_map target_in place) conditional
act_in (code_statement.FreeCell pool cell) = free pool.bytes (written_in cell)
act_in (code_statement.DeletePool pool) = delete pool.bytes
act_in (code_statement.Attach given shared shares_zero) =
    attach (subpools_in given) (subpools_in shared) shares_zero
act_in (code_statement.Detach task) = detach (written_in task)
act_in (code_statement.Run task) = run (written_in task)
act_in code_statement.EndTask = end_task
act_in (code_statement.Poke address content) = poke (written_in address) (stored_in content)

-- What the code's request says.
abbrev pub asked_in : Request → Asked
asked_in (code_request.Act s) = act (act_in s)
asked_in (code_request.Peek address len) = peek (written_in address) len
asked_in code_request.Map = map_asked
asked_in (code_request.Back n) = back n
asked_in (code_request.Forward n) = forward n

-- What the code returns for a statement.
abbrev pub seen : Result Request FaultKind → Result Asked FaultKind
seen (Ok r) = Ok (asked_in r)
seen (Err e) = Err e

-- The elements of what a request stores are bytes.
abbrev pub AskedHasBytes : Asked → Type 0
AskedHasBytes (act (poke address content)) = HasBytes content
AskedHasBytes (act (obtain length subpool target boundary location form)) = ⊤
AskedHasBytes (act (release length address subpool form)) = ⊤
AskedHasBytes (act (whole subpool form)) = ⊤
AskedHasBytes (act (build pool header primary secondary size subpool location)) = ⊤
AskedHasBytes (act (get pool target conditional)) = ⊤
AskedHasBytes (act (free pool cell)) = ⊤
AskedHasBytes (act (delete pool)) = ⊤
AskedHasBytes (act (attach given shared shares_zero)) = ⊤
AskedHasBytes (act (detach task)) = ⊤
AskedHasBytes (act (run task)) = ⊤
AskedHasBytes (act end_task) = ⊤
AskedHasBytes (peek address len) = ⊤
AskedHasBytes map_asked = ⊤
AskedHasBytes (back n) = ⊤
AskedHasBytes (forward n) = ⊤

-- A request has room in the columns of a first line and nine continuation lines. Of those that can be written only a
-- POKE at a long name may have none, if it stores many bytes.
abbrev pub HasRoom : Asked → Type 0
HasRoom (act (poke (named name) (spelled bytes))) = length name + 2 * length bytes ≤ 565
HasRoom (act (poke (named name) (word value))) = ⊤
HasRoom (act (poke (number n) content)) = ⊤
HasRoom (act (poke (register n) content)) = ⊤
HasRoom (act (obtain length subpool target boundary location form)) = ⊤
HasRoom (act (release length address subpool form)) = ⊤
HasRoom (act (whole subpool form)) = ⊤
HasRoom (act (build pool header primary secondary size subpool location)) = ⊤
HasRoom (act (get pool target conditional)) = ⊤
HasRoom (act (free pool cell)) = ⊤
HasRoom (act (delete pool)) = ⊤
HasRoom (act (attach given shared shares_zero)) = ⊤
HasRoom (act (detach task)) = ⊤
HasRoom (act (run task)) = ⊤
HasRoom (act end_task) = ⊤
HasRoom (peek address len) = ⊤
HasRoom map_asked = ⊤
HasRoom (back n) = ⊤
HasRoom (forward n) = ⊤

abbrev pub IsLength : WrittenLength → Type 0
IsLength (fixed length) = IsValue length
IsLength (between maximum minimum) = IsValue maximum × IsValue minimum

abbrev pub IsSubpools : WrittenSubpools → Type 0
IsSubpools nothing = ⊤
IsSubpools (one n) = IsValue n
IsSubpools (listed address) = IsValue address

-- The name of a cell pool is a name in upper case.
abbrev pub IsName : List ℕ → Type 0
IsName name = is_upper_name name ≡ true

-- The header of a cell pool has 1 to 24 characters from the blank to the tilde, none of them an apostrophe.
abbrev pub IsHeader : List ℕ → Type 0
IsHeader header = is_header header ≡ true

abbrev pub is_fixed : WrittenLength → Bool
is_fixed (fixed length) = true
is_fixed (between maximum minimum) = false

-- GETMAIN R has one length, which isn't in register 0, and a subpool, and obtains below the 16 MB line;
pub record IsRegisterObtain (length : WrittenLength) (target : Option Target) (boundary : Boundary)
    (location : Location) (conditional : Bool) : Type 0 where
  pub single : is_fixed length ≡ true
  pub besides : (value : Written) → length ≡ fixed value → is_register_0 value ≡ false
  pub nowhere : target ≡ None
  pub bounded : boundary ≡ Doubleword
  pub low : location ≡ Low
  pub unconditional : conditional ≡ false

-- and the forms E, which name the place of the address, do so too.
pub record IsNamedObtain (length : WrittenLength) (target : Option Target) (location : Location) : Type 0 where
  pub single : is_fixed length ≡ true
  pub place : (name : List ℕ) × (target ≡ Some (in_name name))
  pub low : location ≡ Low

-- The forms of the family S are those of STORAGE, which has them all.
abbrev pub IsObtainForm : Family → WrittenLength → Option Target → Boundary → Location → Bool → Type 0
IsObtainForm family.S length target boundary location conditional = ⊤
IsObtainForm family.R length target boundary location conditional =
    IsRegisterObtain length target boundary location conditional
IsObtainForm family.E length target boundary location conditional = IsNamedObtain length target location

abbrev pub IsReleaseForm : Family → Written → Written → Bool → Type 0
IsReleaseForm family.S length address conditional = ⊤
IsReleaseForm family.R length address conditional = (is_register_0 length ≡ false) × (conditional ≡ false)
IsReleaseForm family.E length address conditional = is_named address ≡ true

-- A whole subpool is released by STORAGE, and by FREEMAIN in the forms R, RC and RU.
abbrev pub IsWholeForm : Family → Bool → Type 0
IsWholeForm family.S conditional = ⊤
IsWholeForm family.R conditional = conditional ≡ false
IsWholeForm family.E conditional = ⊥

-- A statement that can be written: each of its values is one, and some macro has its form.
abbrev pub IsValidAct : Act → Type 0
IsValidAct (obtain length subpool target boundary location form) =
    IsLength length × IsValue subpool × IfSome target IsTarget
    × IsObtainForm form.family length target boundary location form.conditional
IsValidAct (release length address subpool form) =
    IsValue length × IsValue address × IsValue subpool
    × IsReleaseForm form.family length address form.conditional
IsValidAct (whole subpool form) = IsValue subpool × IsWholeForm form.family form.conditional
IsValidAct (build pool header primary secondary size subpool location) =
    IsName pool × IfSome header IsHeader × IsValue primary × IfSome secondary IsValue × IsValue size × IsValue subpool
IsValidAct (get pool target conditional) = IsName pool × IfSome target IsTarget
IsValidAct (free pool cell) = IsName pool × IsValue cell
IsValidAct (delete pool) = IsName pool
IsValidAct (attach given shared shares_zero) = IsSubpools given × IsSubpools shared
IsValidAct (detach task) = IsValue task
IsValidAct (run task) = IsValue task
IsValidAct end_task = ⊤
IsValidAct (poke address content) = IsValue address × IsStored content

-- A request that can be written: one of 1 to 256 bytes, if it is for bytes.
abbrev pub IsValidAsked : Asked → Type 0
IsValidAsked (act a) = IsValidAct a
IsValidAsked (peek address len) = IsValue address × (1 ≤ len) × (len ≤ 256)
IsValidAsked map_asked = ⊤
IsValidAsked (back n) = n < 2 ^ 32
IsValidAsked (forward n) = n < 2 ^ 32
