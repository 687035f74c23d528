-- The requests that are valid, and have room, are those that some script of one statement asks for.
use Rattle.std.proofs.Common.{◌≤◌, ◌⊎◌, List, [], ◌∷◌, length, Ok, inl, inr}
use Rattle.operand_texts.proofs.OperandTexts.{joined}
use Rattle.macro_statements.specs.Requests.{Asked, IsValidAsked, AskedHasBytes, HasRoom}
use Rattle.macro_statements.proofs.SpelledOperands.{Operands, Remarks}
use Rattle.macro_statements.proofs.RequestTexts.{operands_of, field_reads}
use Rattle.macro_reader.specs.Columns.{Line}
use Rattle.macro_reader.specs.Scripts.{Answers}
use Rattle.macro_reader.proofs.FieldLines.{unbroken_joined, long_joined}
use Rattle.macro_reader.proofs.WrittenLines.{written_on, written_bare}

read_by : (asked : Asked) → HasRoom asked → Remarks asked ⊎ Operands asked
    → (lines : List Line) × (length lines ≤ 10) × Answers lines (record { line = 1; what = Ok asked } ∷ [])
read_by asked r (inl b) = written_bare asked b
read_by asked r (inr o) =
    written_on o.operation (joined o.first o.rest) asked o.has (field_reads asked o) (unbroken_joined o.first o.rest o.stands o.stand)
    (long_joined o.first o.rest o.some) (o.fits r)

pub valid_request_is_read : (asked : Asked) → AskedHasBytes asked → IsValidAsked asked → HasRoom asked
    → (lines : List Line) × (length lines ≤ 10) × Answers lines (record { line = 1; what = Ok asked } ∷ [])
valid_request_is_read asked b h r = read_by asked r (operands_of asked b h)
