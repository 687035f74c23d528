-- RUN, and its row.
use Rattle.std.specs.Prelude.{List, ℕ, [], ◌∷◌, Option, Some, None, Result, Ok, Err}
use Rattle.operand_texts.specs.Written.{Written}
use Rattle.macro_operands.specs.Rows.{position, entry, Row}
use Rattle.macro_operands.specs.Operands.{first_fault, unless_fault, value_at}
use Rattle.macro_operands.specs.Requests.{run, Asked, act}
use Rattle.macro_operands.specs.declared.faults.FaultKind.{FaultKind}
use Rattle.macro_operands.specs.declared.faults.FaultKind.TheVariants as fault
use Rattle.macro_operands.specs.declared.rows.Kind.TheVariants as kind

-- RUN, a statement of the bench's own, has the number of a task.
abbrev pub run_row : Row
run_row = record { entries = entry (position 0) kind.Value ∷ []; left_out = [] }

-- A task is required.
abbrev pub run_with : Option Written → Result Asked FaultKind
run_with None = Err fault.Missing
run_with (Some task) = Ok (act (run task))

abbrev pub run_of : List (List ℕ) → Result Asked FaultKind
run_of texts = unless_fault (first_fault run_row texts) (run_with (value_at (position 0) texts))
