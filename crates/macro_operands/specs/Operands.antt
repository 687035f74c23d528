-- Operands of any statement, by its row: their first fault, and the text of each value.
use Rattle.std.specs.Prelude.{ℕ, ◌+◌, Bool, false, if◌then◌else◌, List, [], ◌∷◌, Option, Some, None, Result, Err}
use Rattle.std.specs.Prelude.{option_and_then}
use Rattle.std.specs.List.{list_any}
use Rattle.std.specs.Str.{bytes_eq}
use Rattle.operand_texts.specs.Values.{value_of}
use Rattle.operand_texts.specs.Written.{Written}
use Rattle.macro_operands.specs.Rows.{Key, position, keyword, same_key, is_among, Entry, Row}
use Rattle.macro_operands.specs.Keywords.{Operand, operand_at}
use Rattle.macro_operands.specs.Said.{value_fault}
use Rattle.macro_operands.specs.declared.faults.FaultKind.{FaultKind}
use Rattle.macro_operands.specs.declared.faults.FaultKind.TheVariants as fault

-- The entry of a row that has this key.
abbrev pub entry_for : List Entry → Key → Option Entry
entry_for [] key = None
entry_for (e ∷ entries) key = if same_key e.key key then Some e else entry_for entries key

-- A key is a keyword that is left out.
abbrev pub is_left_out : List (List ℕ) → Key → Bool
is_left_out left_out (position i) = false
is_left_out left_out (keyword name) = list_any (λ w. bytes_eq name w) left_out

-- What is wrong with an operand that isn't in a row: its keyword is left out, or it's none.
abbrev pub unknown_fault : List (List ℕ) → Option Operand → FaultKind
unknown_fault left_out None = fault.Operand
unknown_fault left_out (Some o) = if is_left_out left_out o.key then fault.LeftOut else fault.Operand

-- The key of an operand with which an entry can't appear is among those before.
abbrev pub is_excluded : List Key → Option Key → Bool
is_excluded before None = false
is_excluded before (Some key) = is_among before key

-- What is wrong with an operand after operands with these keys, if the row has this entry for its key, or none: the row
-- doesn't have it, or it can't appear with one of them, or it was written before, or its value is wrong.
abbrev pub entry_fault : List (List ℕ) → List Key → Operand → Option Entry → Option FaultKind
entry_fault left_out before o None = Some (unknown_fault left_out (Some o))
entry_fault left_out before o (Some e) =
    if is_excluded before e.excluded then Some fault.Operand
    else if is_among before o.key then Some fault.Repeated
    else value_fault e.kind o.text

-- What is wrong with an operand after operands with these keys.
abbrev pub operand_fault : Row → List Key → Option Operand → Option FaultKind
operand_fault row before None = Some fault.Operand
operand_fault row before (Some o) = entry_fault row.left_out before o (entry_for row.entries o.key)

-- The earlier of two faults.
abbrev pub earlier : Option FaultKind → Option FaultKind → Option FaultKind
earlier None g = g
earlier (Some f) g = Some f

-- The keys before, with that of another operand.
abbrev pub with_key : List Key → Option Operand → List Key
with_key before None = before
with_key before (Some o) = o.key ∷ before

-- The first fault of the operands from left to right, the first of which is at this place after operands with these
-- keys.
abbrev pub fault_from : Row → List Key → ℕ → List (List ℕ) → Option FaultKind
fault_from row before place [] = None
fault_from row before place (text ∷ texts) =
    earlier (operand_fault row before (operand_at place text))
    (fault_from row (with_key before (operand_at place text)) (place + 1) texts)

-- The first fault of the operands.
abbrev pub first_fault : Row → List (List ℕ) → Option FaultKind
first_fault row texts = fault_from row [] 0 texts

-- A fault, or else what the operands ask for.
abbrev pub unless_fault : {A : Type 0} → Option FaultKind → Result A FaultKind → Result A FaultKind
unless_fault None r = r
unless_fault (Some f) r = Err f

-- The text of an operand's value if it has this key, or another text.
abbrev pub text_or : Key → Option Operand → Option (List ℕ) → Option (List ℕ)
text_or key None other = other
text_or key (Some o) other = if same_key key o.key then Some o.text else other

-- The text of the value of the operand that has this key, of operands the first of which is at this place.
abbrev pub text_from : Key → ℕ → List (List ℕ) → Option (List ℕ)
text_from key place [] = None
text_from key place (text ∷ texts) = text_or key (operand_at place text) (text_from key (place + 1) texts)

-- The text of the value of the operand that has this key.
abbrev pub text_at : Key → List (List ℕ) → Option (List ℕ)
text_at key texts = text_from key 0 texts

-- The value of the operand that has this key.
abbrev pub value_at : Key → List (List ℕ) → Option Written
value_at key texts = option_and_then value_of (text_at key texts)
