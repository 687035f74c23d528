-- PEEK, and its row.
use Rattle.std.specs.Prelude.{ℕ, List, [], ◌∷◌, Option, Some, Result, Ok, Err, option_and_then}
use Rattle.operand_texts.specs.Values.{size_of}
use Rattle.operand_texts.specs.Written.{Written}
use Rattle.macro_operands.specs.Rows.{position, entry, Row}
use Rattle.macro_operands.specs.Operands.{first_fault, unless_fault, text_at, value_at}
use Rattle.macro_operands.specs.Requests.{Asked, peek}
use Rattle.macro_operands.specs.declared.faults.FaultKind.{FaultKind}
use Rattle.macro_operands.specs.declared.faults.FaultKind.TheVariants as fault
use Rattle.macro_operands.specs.declared.rows.Kind.TheVariants as kind

-- PEEK, a statement of the bench's own, has an address and a length.
abbrev pub peek_row : Row
peek_row = record {
  entries = entry (position 0) kind.Value ∷ entry (position 1) kind.Size ∷ [];
  left_out = [];
}

-- An address and a length are required.
abbrev pub peek_with : Option Written → Option ℕ → Result Asked FaultKind
peek_with (Some address) (Some size) = Ok (peek address size)
peek_with _ _ = Err fault.Missing

-- PEEK, a statement of the bench's own, has an address and a length.
abbrev pub peek_of : List (List ℕ) → Result Asked FaultKind
peek_of texts =
    unless_fault (first_fault peek_row texts)
    (peek_with (value_at (position 0) texts) (option_and_then size_of (text_at (position 1) texts)))
