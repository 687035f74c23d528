-- DETACH, and its row (Assembler Services Reference, DETACH).
use Rattle.std.specs.Prelude.{List, ℕ, [], ◌∷◌, Option, Some, None, Result, Ok, Err, codes}
use Rattle.operand_texts.specs.Written.{Written}
use Rattle.macro_operands.specs.Rows.{position, keyword, entry, Row}
use Rattle.macro_operands.specs.Operands.{first_fault, unless_fault, value_at}
use Rattle.macro_operands.specs.Requests.{detach, Asked, act}
use Rattle.macro_operands.specs.declared.faults.FaultKind.{FaultKind}
use Rattle.macro_operands.specs.declared.faults.FaultKind.TheVariants as fault
use Rattle.macro_operands.specs.declared.rows.Kind.TheVariants as kind

-- DETACH has the number of a task. Its keyword for a task that ended abnormally, and lists of operands, are left out.
abbrev pub detach_row : Row
detach_row = record {
  entries = entry (position 0) kind.Value ∷ entry (keyword (codes "RELATED")) kind.Any
      ∷ entry (keyword (codes "LINKAGE")) kind.Any ∷ entry (keyword (codes "REGS")) kind.Any ∷ [];
  left_out = codes "STAE" ∷ codes "MF" ∷ [];
}

-- A task is required.
abbrev pub detach_with : Option Written → Result Asked FaultKind
detach_with None = Err fault.Missing
detach_with (Some task) = Ok (act (detach task))

abbrev pub detach_of : List (List ℕ) → Result Asked FaultKind
detach_of texts = unless_fault (first_fault detach_row texts) (detach_with (value_at (position 0) texts))
