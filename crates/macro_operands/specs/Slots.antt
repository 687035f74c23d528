-- Rows as the code keeps them, and what was read of operands, by the places of a row's entries.
use Rattle.std.specs.Prelude.{ℕ, ◌+◌, Bool, false, if◌then◌else◌, List, [], ◌∷◌, map, slice_index_or, slice_set}
use Rattle.std.specs.Prelude.{Option, Some, None, is_some, Result, Ok, Err, option_and_then, true, not, ◌&&◌}
use Rattle.std.specs.Option.{option_map}
use Rattle.std.specs.Char.{to_ascii_uppercase}
use Rattle.operand_texts.specs.Written.{Written, number, named, register, Target, in_name, in_register, Stored}
use Rattle.operand_texts.specs.Values.{content_of}
use Rattle.macro_operands.specs.Lengths.{pair_of, name_of}
use Rattle.macro_operands.specs.Headers.{header_of}
use Rattle.macro_operands.specs.Rows as rows
use Rattle.macro_operands.specs.Rows.{position, keyword, same_key, is_among}
use Rattle.macro_operands.specs.Operands.{unknown_fault, text_at}
use Rattle.macro_operands.specs.Keywords as keywords
use Rattle.macro_operands.specs.Keywords.{operand_at}
use Rattle.macro_operands.specs.Said as says
use Rattle.macro_operands.specs.Said.{said_of, unsaid_fault}
use Rattle.vsm_model.specs.declared.services.Boundary.{Boundary}
use Rattle.vsm_model.specs.declared.services.Location.{Location}
use Rattle.macro_operands.specs.declared.faults.FaultKind.{FaultKind}
use Rattle.macro_operands.specs.declared.faults.FaultKind.TheVariants as fault
use Rattle.macro_operands.specs.declared.rows.Key.{Key}
use Rattle.macro_operands.specs.declared.rows.Key.TheVariants as code_key
use Rattle.macro_operands.specs.declared.rows.Entry.{Entry}
use Rattle.macro_operands.specs.declared.rows.OperandRow.{OperandRow}
use Rattle.macro_operands.specs.declared.operands.Operand.{Operand}
use Rattle.macro_operands.specs.declared.said.Said.{Said}
use Rattle.macro_operands.specs.declared.said.Said.TheVariants as code_said

-- The key that an entry has.
abbrev pub key_in : Key → rows.Key
key_in (code_key.Position i) = position i
key_in (code_key.Keyword word) = keyword word.now

-- The key that an operand has, whose keyword may be in either case.
abbrev pub upper_key : Key → rows.Key
upper_key (code_key.Position i) = position i
upper_key (code_key.Keyword name) = keyword (map to_ascii_uppercase name.now)

abbrev pub entry_in : Entry → rows.Entry
entry_in e = record { key = key_in e.key; kind = e.kind; excluded = option_map upper_key e.excluded }

abbrev pub row_in : OperandRow → rows.Row
row_in row = record { entries = map entry_in row.entries.now; left_out = map (λ w. w.now) row.left_out.now }

abbrev pub operand_in : Operand → keywords.Operand
operand_in o = record { key = upper_key o.key; text = o.text.now }

-- What the code's word for it says.
abbrev pub said_in : Said → says.Said
said_in (code_said.Number n) = says.number n
said_in (code_said.Register n) = says.register n
said_in (code_said.Named text) = says.name text.now
said_in (code_said.Pair text) = says.pair text.now
said_in (code_said.Condition b) = says.condition b
said_in (code_said.Content text) = says.content text.now
said_in (code_said.Size n) = says.size n
said_in (code_said.Count n) = says.count n
said_in (code_said.Boundary b) = says.boundary b
said_in (code_said.Location l) = says.location l
said_in (code_said.Header text) = says.header text.now
said_in code_said.Anything = says.anything

-- For each entry of a row what was read for it, or nothing.
abbrev pub Slots : Type 0
Slots = List (Option says.Said)

abbrev pub slots_in : List (Option Said) → Slots
slots_in said = map (option_map said_in) said

-- The place of a key's entry, counted from this number, and the entry.
abbrev pub found : ℕ → List rows.Entry → rows.Key → Option (ℕ × rows.Entry)
found i [] key = None
found i (e ∷ entries) key = if same_key e.key key then Some (i, e) else found (i + 1) entries key

-- What was read at a place.
abbrev pub slot : Slots → ℕ → Option says.Said
slot slots i = slice_index_or slots i None

-- Something was read for the entry that was found.
abbrev pub is_filled : Slots → Option (ℕ × rows.Entry) → Bool
is_filled slots None = false
is_filled slots (Some f) = is_some (slot slots f.0)

-- An entry's excluded operand was read.
abbrev pub is_barred : List rows.Entry → Slots → Option rows.Key → Bool
is_barred entries slots None = false
is_barred entries slots (Some key) = is_filled slots (found 0 entries key)

-- The slots with what one operand says, or its fault.
abbrev pub filled : Slots → ℕ → FaultKind → Option says.Said → Result Slots FaultKind
filled slots i wrong None = Err wrong
filled slots i wrong (Some said) = Ok (slice_set slots i (Some said))

abbrev pub with_entry : rows.Row → Slots → keywords.Operand → Option (ℕ × rows.Entry) → Result Slots FaultKind
with_entry row slots o None = Err (unknown_fault row.left_out (Some o))
with_entry row slots o (Some f) =
    if is_barred row.entries slots f.1.excluded then Err fault.Operand
    else if is_some (slot slots f.0) then Err fault.Repeated
    else filled slots f.0 (unsaid_fault f.1.kind o.text) (said_of f.1.kind o.text)

abbrev pub with_operand : rows.Row → Slots → Option keywords.Operand → Result Slots FaultKind
with_operand row slots None = Err fault.Operand
with_operand row slots (Some o) = with_entry row slots o (found 0 row.entries o.key)

-- The slots with what the operands say, the first of which is at this place, or the first fault.
abbrev pub with_operands : rows.Row → Slots → ℕ → List (List ℕ) → Result Slots FaultKind
with_operands row slots place [] = Ok slots
with_operands row slots place (text ∷ texts) =
    elim (with_operand row slots (operand_at place text)) [
      | Ok more ↦ with_operands row more (place + 1) texts
      | Err wrong ↦ Err wrong
    ]

-- Slots in which nothing was read.
abbrev pub no_slots : List rows.Entry → Slots
no_slots entries = map (λ e. None) entries

-- What the operands say for each entry.
abbrev pub readings : List rows.Entry → List (List ℕ) → Slots
readings entries texts = map (λ e. option_and_then (said_of e.kind) (text_at e.key texts)) entries

-- The entries have keys of their own.
abbrev pub are_apart : List rows.Entry → Bool
are_apart [] = true
are_apart (e ∷ entries) = not (is_among (map (λ f. f.key) entries) e.key) && are_apart entries

-- What the code returns, with the slots as it leaves them.
abbrev pub answered : Option FaultKind → Slots → Result Slots FaultKind
answered None slots = Ok slots
answered (Some wrong) slots = Err wrong

-- What was said, if it's of this kind.
abbrev pub as_value : Option says.Said → Option Written
as_value (Some (says.number n)) = Some (number n)
as_value (Some (says.register n)) = Some (register n)
as_value (Some (says.name text)) = option_map named (name_of text)
as_value _ = None

abbrev pub as_pair : Option says.Said → Option (Written × Written)
as_pair (Some (says.pair text)) = pair_of text
as_pair _ = None

abbrev pub as_place : Option says.Said → Option Target
as_place (Some (says.register n)) = Some (in_register n)
as_place (Some (says.name text)) = option_map in_name (name_of text)
as_place _ = None

abbrev pub as_condition : Option says.Said → Option Bool
as_condition (Some (says.condition b)) = Some b
as_condition _ = None

abbrev pub as_content : Option says.Said → Option Stored
as_content (Some (says.content text)) = content_of text
as_content _ = None

abbrev pub as_size : Option says.Said → Option ℕ
as_size (Some (says.size n)) = Some n
as_size _ = None

abbrev pub as_count : Option says.Said → Option ℕ
as_count (Some (says.count n)) = Some n
as_count _ = None

abbrev pub as_boundary : Option says.Said → Option Boundary
as_boundary (Some (says.boundary b)) = Some b
as_boundary _ = None

abbrev pub as_location : Option says.Said → Option Location
as_location (Some (says.location l)) = Some l
as_location _ = None

abbrev pub as_name : Option says.Said → Option (List ℕ)
as_name (Some (says.name text)) = name_of text
as_name _ = None

abbrev pub as_header : Option says.Said → Option (List ℕ)
as_header (Some (says.header text)) = header_of text
as_header _ = None
