-- CPOOL: its forms BUILD, GET, FREE and DELETE (Assembler Services Reference, "CPOOL - Perform cell pool services").
use Rattle.std.specs.Prelude.{ℕ, Bool, if◌then◌else◌, List, [], ◌∷◌, Option, Some, None, Result, Ok, Err, codes}
use Rattle.operand_texts.specs.Words.{is_word}
use Rattle.operand_texts.specs.Written.{Written, Target}
use Rattle.macro_operands.specs.Rows.{position, keyword, entry, Row}
use Rattle.macro_operands.specs.Operands.{first_fault, unless_fault}
use Rattle.macro_operands.specs.Slots.{Slots, slot, readings, as_name, as_header, as_value, as_place, as_condition}
use Rattle.macro_operands.specs.Slots.{as_location}
use Rattle.macro_operands.specs.declared.faults.FaultKind.{FaultKind}
use Rattle.macro_operands.specs.declared.faults.FaultKind.TheVariants as fault
use Rattle.macro_operands.specs.declared.rows.Kind.{Kind}
use Rattle.macro_operands.specs.declared.rows.Kind.TheVariants as kind
use Rattle.macro_operands.specs.Requests.{build, get, free, delete, Asked, act}
use Rattle.macro_statements.specs.Forms.{left_out_keywords, subpool_by, location_by, condition_by, no_form_fault}
use Rattle.macro_statements.specs.declared.cpool.PoolForm.{PoolForm}
use Rattle.macro_statements.specs.declared.cpool.PoolForm.TheVariants as form
use Rattle.vsm_model.specs.declared.causes.Family.TheVariants as family
use Rattle.vsm_model.specs.declared.services.Location.{Location}

-- The form of a word, in either case.
abbrev pub pool_form_of : List ℕ → Option PoolForm
pool_form_of word =
    if is_word word (codes "BUILD") then Some form.Build
    else if is_word word (codes "GET") then Some form.Get
    else if is_word word (codes "FREE") then Some form.Free
    else if is_word word (codes "DELETE") then Some form.Delete
    else None

-- The operands after a form: CPID, which each has; numbers, LOC, HDR, a word in the position after the form, and CELL,
-- each of the kind that the form has; and RELATED, LINKAGE and REGS, which have no effect.
abbrev pub pool_row : Kind → Kind → Kind → Kind → Kind → Row
pool_row number location header word cell = record {
  entries = entry (keyword (codes "CPID")) kind.Name ∷ entry (keyword (codes "PCELLCT")) number
      ∷ entry (keyword (codes "SCELLCT")) number ∷ entry (keyword (codes "CSIZE")) number
      ∷ entry (keyword (codes "SP")) number ∷ entry (keyword (codes "LOC")) location
      ∷ entry (keyword (codes "HDR")) header ∷ entry (position 0) word
      ∷ entry (keyword (codes "CELL")) cell ∷ entry (keyword (codes "RELATED")) kind.Any
      ∷ entry (keyword (codes "LINKAGE")) kind.Any ∷ entry (keyword (codes "REGS")) kind.Any ∷ [];
  left_out = left_out_keywords;
}

-- BUILD has numbers, LOC and HDR; GET has a word for its condition, and CELL says where the address goes; FREE has the
-- address of a cell; and DELETE has none of these.
abbrev pub pool_form_row : PoolForm → Row
pool_form_row form.Build = pool_row kind.Value kind.Location kind.Header kind.OtherForm kind.OtherForm
pool_form_row form.Get = pool_row kind.OtherForm kind.OtherForm kind.OtherForm kind.ConditionWord kind.Place
pool_form_row form.Free = pool_row kind.OtherForm kind.OtherForm kind.OtherForm kind.OtherForm kind.Value
pool_form_row form.Delete = pool_row kind.OtherForm kind.OtherForm kind.OtherForm kind.OtherForm kind.OtherForm

-- BUILD requires a name, a number of cells (PCELLCT) and their size. SCELLCT and HDR may be left out; SP is 0 and LOC
-- as the caller resides if they are.
abbrev pub build_with : Option (List ℕ) → Option (List ℕ) → Option Written → Option Written → Option Written
    → Option Written → Option Location → Result Asked FaultKind
build_with (Some pool) header (Some primary) secondary (Some size) subpool location =
    Ok (act (build pool header primary secondary size (subpool_by subpool) (location_by family.S location)))
build_with _ header _ secondary _ subpool location = Err fault.Missing

-- GET requires a name. It's unconditional if it doesn't say.
abbrev pub get_with : Option (List ℕ) → Option Target → Option Bool → Result Asked FaultKind
get_with None target condition = Err fault.Missing
get_with (Some pool) target condition = Ok (act (get pool target (condition_by condition)))

-- FREE requires a name and a cell's address,
abbrev pub free_with : Option (List ℕ) → Option Written → Result Asked FaultKind
free_with (Some pool) (Some cell) = Ok (act (free pool cell))
free_with _ _ = Err fault.Missing

-- and DELETE a name.
abbrev pub delete_with : Option (List ℕ) → Result Asked FaultKind
delete_with None = Err fault.Missing
delete_with (Some pool) = Ok (act (delete pool))

-- What a form asks for by what its operands say, in the order of `pool_row`.
abbrev pub pool_by : PoolForm → Slots → Result Asked FaultKind
pool_by form.Build slots =
    build_with (as_name (slot slots 0)) (as_header (slot slots 6)) (as_value (slot slots 1)) (as_value (slot slots 2))
    (as_value (slot slots 3)) (as_value (slot slots 4)) (as_location (slot slots 5))
pool_by form.Get slots =
    get_with (as_name (slot slots 0)) (as_place (slot slots 8)) (as_condition (slot slots 7))
pool_by form.Free slots = free_with (as_name (slot slots 0)) (as_value (slot slots 8))
pool_by form.Delete slots = delete_with (as_name (slot slots 0))

-- A form with its operands.
abbrev pub pool_form_with : PoolForm → List (List ℕ) → Result Asked FaultKind
pool_form_with f texts =
    unless_fault (first_fault (pool_form_row f) texts) (pool_by f (readings (pool_form_row f).entries texts))

-- CPOOL's form LIST is left out.
abbrev pub with_pool_form : List ℕ → List (List ℕ) → Option PoolForm → Result Asked FaultKind
with_pool_form word texts None = Err (no_form_fault (codes "LIST" ∷ []) word)
with_pool_form word texts (Some f) = pool_form_with f texts

-- CPOOL with its operands, the first of which is a form's word.
abbrev pub cpool_of : List (List ℕ) → Result Asked FaultKind
cpool_of [] = Err fault.Missing
cpool_of (word ∷ texts) = with_pool_form word texts (pool_form_of word)
