-- The macros that obtain and release storage, STORAGE, GETMAIN and FREEMAIN: their forms, and what each asks for.
use Rattle.std.specs.Prelude.{ℕ, Bool, true, false, ◌&&◌, ◌||◌, ◌==◌, if◌then◌else◌, List, [], ◌∷◌, length}
use Rattle.std.specs.Prelude.{Option, Some, None, Result, Ok, Err, codes, unwrap_or}
use Rattle.std.specs.List.{list_any}
use Rattle.operand_texts.specs.Words.{is_word}
use Rattle.operand_texts.specs.Written.{Written, number, Target}
use Rattle.macro_operands.specs.Rows.{keyword, entry, Row}
use Rattle.macro_operands.specs.Keywords.{operand_at}
use Rattle.macro_operands.specs.Operands.{unknown_fault, first_fault, unless_fault}
use Rattle.macro_operands.specs.Said.{Said}
use Rattle.macro_operands.specs.Slots.{Slots, slot, readings, are_apart}
use Rattle.macro_operands.specs.Slots.{as_value, as_pair, as_place, as_condition, as_boundary, as_location}
use Rattle.macro_operands.specs.declared.faults.FaultKind.{FaultKind}
use Rattle.macro_operands.specs.declared.faults.FaultKind.TheVariants as fault
use Rattle.macro_operands.specs.declared.rows.Kind.{Kind}
use Rattle.macro_operands.specs.declared.rows.Kind.TheVariants as kind
use Rattle.macro_operands.specs.Requests.{WrittenLength, fixed, between, obtain, release, whole, Asked, act}
use Rattle.macro_operands.specs.declared.requests.Form.{Form}
use Rattle.vsm_model.specs.declared.causes.Family.{Family}
use Rattle.vsm_model.specs.declared.causes.Family.TheVariants as family
use Rattle.vsm_model.specs.declared.services.Boundary.{Boundary}
use Rattle.vsm_model.specs.declared.services.Boundary.TheVariants.{Doubleword}
use Rattle.vsm_model.specs.declared.services.Location.{Location}
use Rattle.vsm_model.specs.declared.services.Location.TheVariants.{Low, Caller}

-- The keywords of these macros that are left out: storage keys, the storage of other tasks, exact boundaries, and lists
-- of operands.
abbrev pub left_out_keywords : List (List ℕ)
left_out_keywords =
    codes "KEY" ∷ codes "CALLRKY" ∷ codes "TCBADDR" ∷ codes "OWNER" ∷ codes "EXECUTABLE" ∷ codes "CHECKZERO"
    ∷ codes "STARTBDY" ∷ codes "CONTBDY" ∷ codes "INADDR" ∷ codes "RTCD" ∷ codes "BRANCH" ∷ codes "TCB"
    ∷ codes "MF" ∷ []

-- The operands of a form: a length and an address, or the place of one, under their keywords, SP, BNDRY, LOC and COND,
-- each of the kind that the form has; and RELATED, LINKAGE and REGS, which any form has and which have no effect.
abbrev pub storage_row : List ℕ → Kind → List ℕ → Kind → Kind → Kind → Kind → Row
storage_row length_word length address_word address boundary location condition = record {
  entries = entry (keyword length_word) length ∷ entry (keyword (codes "SP")) kind.Value
      ∷ entry (keyword address_word) address ∷ entry (keyword (codes "BNDRY")) boundary
      ∷ entry (keyword (codes "LOC")) location ∷ entry (keyword (codes "COND")) condition
      ∷ entry (keyword (codes "RELATED")) kind.Any ∷ entry (keyword (codes "LINKAGE")) kind.Any
      ∷ entry (keyword (codes "REGS")) kind.Any ∷ [];
  left_out = left_out_keywords;
}

-- A row has a place for each of these, and distinct keys.
abbrev pub is_storage_row : Row → Bool
is_storage_row row = (length row.entries == 9) && are_apart row.entries

-- A form of a macro: its word, which is the macro's first operand; whether it obtains storage, or releases it; its
-- operands; and its family of completion codes, and whether it's conditional without COND.
pub record StorageForm : Type 0 where
  pub word : List ℕ
  pub obtains : Bool
  pub row : Row
  pub form : Form

abbrev pub obtaining : List ℕ → Row → Family → Bool → StorageForm
obtaining word row family conditional =
    record { word = word; obtains = true; row = row; form = record { family = family; conditional = conditional } }

abbrev pub releasing : List ℕ → Row → Family → Bool → StorageForm
releasing word row family conditional =
    record { word = word; obtains = false; row = row; form = record { family = family; conditional = conditional } }

-- A macro has forms, and other forms that are left out.
pub record StorageMacro : Type 0 where
  pub forms : List StorageForm
  pub left_out : List (List ℕ)

-- A length is a value or a pair of values.
abbrev pub either_length : Option Written → Option (Written × Written) → Option WrittenLength
either_length (Some v) pair = Some (fixed v)
either_length None (Some pair) = Some (between pair.0 pair.1)
either_length None None = None

abbrev pub as_length : Option Said → Option WrittenLength
as_length said = either_length (as_value said) (as_pair said)

-- SP is 0 if it is left out.
abbrev pub subpool_by : Option Written → Written
subpool_by subpool = unwrap_or subpool (number 0)

-- BNDRY is a doubleword if it is left out.
abbrev pub boundary_by : Option Boundary → Boundary
boundary_by boundary = unwrap_or boundary Doubleword

-- COND is NO if it is left out.
abbrev pub condition_by : Option Bool → Bool
condition_by condition = unwrap_or condition false

-- LOC is as the caller resides if it is left out. The families R and E, which have no LOC, obtain below the 16 MB line
-- (Assembler Services Reference, "GETMAIN - Allocate virtual storage", LOC).
abbrev pub usual_location : Family → Location
usual_location family.S = Caller
usual_location family.R = Low
usual_location family.E = Low

abbrev pub location_by : Family → Option Location → Location
location_by f location = unwrap_or location (usual_location f)

-- A form is conditional by its word, or if COND says YES.
abbrev pub form_by : Form → Option Bool → Form
form_by form condition = record { family = form.family; conditional = form.conditional || condition_by condition }

-- Only the forms of the family E require a place for the address.
abbrev pub lacks_place : Family → Option Target → Bool
lacks_place family.E None = true
lacks_place _ _ = false

-- The length is required.
abbrev pub obtain_with : Option WrittenLength → Written → Option Target → Boundary → Location → Form
    → Result Asked FaultKind
obtain_with None subpool target boundary location form = Err fault.Missing
obtain_with (Some length) subpool target boundary location form =
    Ok (act (obtain length subpool target boundary location form))

-- All of a subpool can be released by the families S and R.
abbrev pub has_whole : Family → Bool
has_whole family.S = true
has_whole family.R = true
has_whole family.E = false

-- A length and an address are required, or neither and a subpool, of which all is released.
abbrev pub release_with : Option Written → Option Written → Option Written → Form → Result Asked FaultKind
release_with (Some length) (Some address) subpool form = Ok (act (release length address (subpool_by subpool) form))
release_with None None (Some subpool) form =
    if has_whole form.family then Ok (act (whole subpool form)) else Err fault.Missing
release_with _ _ _ form = Err fault.Missing

-- What a form asks for by what its operands say, in the order of `storage_row`.
abbrev pub obtain_by : Form → Slots → Result Asked FaultKind
obtain_by form slots =
    if lacks_place form.family (as_place (slot slots 2)) then Err fault.Missing
    else obtain_with (as_length (slot slots 0)) (subpool_by (as_value (slot slots 1))) (as_place (slot slots 2))
    (boundary_by (as_boundary (slot slots 3))) (location_by form.family (as_location (slot slots 4)))
    (form_by form (as_condition (slot slots 5)))

abbrev pub release_by : Form → Slots → Result Asked FaultKind
release_by form slots =
    release_with (as_value (slot slots 0)) (as_value (slot slots 2)) (as_value (slot slots 1))
    (form_by form (as_condition (slot slots 5)))

abbrev pub asked_by : StorageForm → Slots → Result Asked FaultKind
asked_by f slots = if f.obtains then obtain_by f.form slots else release_by f.form slots

-- A form with the operands after its word.
abbrev pub form_with : StorageForm → List (List ℕ) → Result Asked FaultKind
form_with f texts = unless_fault (first_fault f.row texts) (asked_by f (readings f.row.entries texts))

-- The form of a word, in either case.
abbrev pub form_for : List StorageForm → List ℕ → Option StorageForm
form_for [] word = None
form_for (f ∷ forms) word = if is_word word f.word then Some f else form_for forms word

-- What is wrong with a first operand that is no form's word: it's a form that is left out, or has a keyword that is, or
-- is no operand.
abbrev pub no_form_fault : List (List ℕ) → List ℕ → FaultKind
no_form_fault left_out word =
    if list_any (λ w. is_word word w) left_out then fault.LeftOut
    else unknown_fault left_out_keywords (operand_at 0 word)

abbrev pub with_form : StorageMacro → List ℕ → List (List ℕ) → Option StorageForm → Result Asked FaultKind
with_form m word texts None = Err (no_form_fault m.left_out word)
with_form m word texts (Some f) = form_with f texts

-- A macro with its operands, the first of which is a form's word.
abbrev pub macro_of : StorageMacro → List (List ℕ) → Result Asked FaultKind
macro_of m [] = Err fault.Missing
macro_of m (word ∷ texts) = with_form m word texts (form_for m.forms word)
