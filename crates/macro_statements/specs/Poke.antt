-- POKE, and its row.
use Rattle.std.specs.Prelude.{ℕ, List, [], ◌∷◌, Option, Some, Result, Ok, Err, option_and_then}
use Rattle.operand_texts.specs.Values.{content_of}
use Rattle.operand_texts.specs.Written.{Written, Stored}
use Rattle.macro_operands.specs.Rows.{position, entry, Row}
use Rattle.macro_operands.specs.Operands.{first_fault, unless_fault, text_at, value_at}
use Rattle.macro_operands.specs.Requests.{poke, Asked, act}
use Rattle.macro_operands.specs.declared.faults.FaultKind.{FaultKind}
use Rattle.macro_operands.specs.declared.faults.FaultKind.TheVariants as fault
use Rattle.macro_operands.specs.declared.rows.Kind.TheVariants as kind

-- POKE, a statement of the bench's own, has an address and what is stored there.
abbrev pub poke_row : Row
poke_row = record {
  entries = entry (position 0) kind.Value ∷ entry (position 1) kind.Content ∷ [];
  left_out = [];
}

-- An address and what is stored there are required.
abbrev pub poke_with : Option Written → Option Stored → Result Asked FaultKind
poke_with (Some address) (Some content) = Ok (act (poke address content))
poke_with _ _ = Err fault.Missing

-- POKE, a statement of the bench's own, has an address and what is stored there.
abbrev pub poke_of : List (List ℕ) → Result Asked FaultKind
poke_of texts =
    unless_fault (first_fault poke_row texts)
    (poke_with (value_at (position 0) texts) (option_and_then content_of (text_at (position 1) texts)))
