-- BACK and FORWARD, and their row.
use Rattle.std.specs.Prelude.{ℕ, List, [], ◌∷◌, Option, Some, None, Result, Ok, Err, option_and_then}
use Rattle.operand_texts.specs.Values.{number_of}
use Rattle.macro_operands.specs.Rows.{position, entry, Row}
use Rattle.macro_operands.specs.Operands.{first_fault, unless_fault, text_at}
use Rattle.macro_operands.specs.Requests.{Asked}
use Rattle.macro_operands.specs.declared.faults.FaultKind.{FaultKind}
use Rattle.macro_operands.specs.declared.faults.FaultKind.TheVariants as fault
use Rattle.macro_operands.specs.declared.rows.Kind.TheVariants as kind

-- BACK and FORWARD, statements of the bench's own, have a number.
abbrev pub steps_row : Row
steps_row = record { entries = entry (position 0) kind.Count ∷ []; left_out = [] }

-- A count is required.
abbrev pub count_with : Option ℕ → Result ℕ FaultKind
count_with None = Err fault.Missing
count_with (Some n) = Ok n

-- One operand, a number.
abbrev pub count_in : List (List ℕ) → Result ℕ FaultKind
count_in texts =
    unless_fault (first_fault steps_row texts) (count_with (option_and_then number_of (text_at (position 0) texts)))

-- A step takes a count.
abbrev pub step_with : (ℕ → Asked) → Result ℕ FaultKind → Result Asked FaultKind
step_with step (Ok n) = Ok (step n)
step_with step (Err e) = Err e
