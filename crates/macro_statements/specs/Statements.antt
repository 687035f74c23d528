-- The request of a statement, or its first fault.
use Rattle.std.specs.Prelude.{◌≡◌, ℕ, Bool, not, ◌&&◌, if◌then◌else◌, nat_lt, List, Option, Some, None}
use Rattle.std.specs.Prelude.{[], Result, Ok, Err, codes}
use Rattle.operand_texts.specs.Words.{is_word, is_name, word, word_len, after_word, after_blanks}
use Rattle.operand_texts.specs.Field.{outside, operands, is_balanced}
use Rattle.macro_operands.specs.Requests.{Asked, act, end_task, map_asked, back, forward}
use Rattle.macro_statements.specs.Forms.{macro_of}
use Rattle.macro_statements.specs.Storage.{storage_macro}
use Rattle.macro_statements.specs.Getmain.{getmain_macro}
use Rattle.macro_statements.specs.Freemain.{freemain_macro}
use Rattle.macro_statements.specs.Cpool.{cpool_of}
use Rattle.macro_statements.specs.Poke.{poke_of}
use Rattle.macro_statements.specs.Peek.{peek_of}
use Rattle.macro_statements.specs.Steps.{count_in, step_with}
use Rattle.macro_statements.specs.Attach.{attach_of}
use Rattle.macro_statements.specs.Detach.{detach_of}
use Rattle.macro_statements.specs.Run.{run_of}
use Rattle.macro_operands.specs.declared.faults.FaultKind.{FaultKind}
use Rattle.macro_operands.specs.declared.faults.FaultKind.TheVariants as fault
use Rattle.macro_operands.specs.declared.rows.Behind.{Behind}
use Rattle.macro_operands.specs.declared.rows.Behind.TheVariants as behind
use Rattle.macro_statements.specs.declared.statements.Head.{Head}
use Rattle.macro_statements.specs.declared.statements.Operation.{Operation}
use Rattle.macro_statements.specs.declared.statements.Operation.TheVariants as operation

-- The operation that a word is, in either case.
abbrev pub operation_of : List ℕ → Option Operation
operation_of text =
    if is_word text (codes "STORAGE") then Some operation.Storage
    else if is_word text (codes "GETMAIN") then Some operation.Getmain
    else if is_word text (codes "FREEMAIN") then Some operation.Freemain
    else if is_word text (codes "CPOOL") then Some operation.Cpool
    else if is_word text (codes "ATTACH") then Some operation.Attach
    else if is_word text (codes "DETACH") then Some operation.Detach
    else if is_word text (codes "RUN") then Some operation.Run
    else if is_word text (codes "ENDTASK") then Some operation.EndTask
    else if is_word text (codes "POKE") then Some operation.Poke
    else if is_word text (codes "PEEK") then Some operation.Peek
    else if is_word text (codes "MAP") then Some operation.Map
    else if is_word text (codes "BACK") then Some operation.Back
    else if is_word text (codes "FORWARD") then Some operation.Forward
    else None

-- What an operation asks for with these operands.
abbrev pub asked_of : Operation → List (List ℕ) → Result Asked FaultKind
asked_of operation.Storage os = macro_of storage_macro os
asked_of operation.Getmain os = macro_of getmain_macro os
asked_of operation.Freemain os = macro_of freemain_macro os
asked_of operation.Cpool os = cpool_of os
asked_of operation.Attach os = attach_of os
asked_of operation.Detach os = detach_of os
asked_of operation.Run os = run_of os
asked_of operation.EndTask os = Ok (act end_task)
asked_of operation.Poke os = poke_of os
asked_of operation.Peek os = peek_of os
asked_of operation.Map os = Ok map_asked
asked_of operation.Back os = step_with back (count_in os)
asked_of operation.Forward os = step_with forward (count_in os)

-- What an operation asks for with this operand field.
abbrev pub of_operation : Option Operation → List ℕ → Result Asked FaultKind
of_operation None text = Err fault.Operation
of_operation (Some o) text = if is_balanced outside text then asked_of o (operands text) else Err fault.Operand

-- An operation with this operand field spells a request.
abbrev pub SpellsRequest : Operation → List ℕ → Asked → Type 0
SpellsRequest operation field asked = of_operation (Some operation) field ≡ Ok asked

-- A first line, columns 1 to 71 of it, from the operation on.
abbrev pub from_operation : List ℕ → List ℕ
from_operation card = after_blanks (after_word card)

-- What follows an operation: only remarks after these two, and operands after any other, also if it isn't known.
abbrev pub behind_of : Option Operation → Behind
behind_of (Some operation.EndTask) = behind.Remarks
behind_of (Some operation.Map) = behind.Remarks
behind_of _ = behind.Operands

-- The operands in a text after an operation: nothing if it is only remarks.
abbrev pub operands_in : Behind → List ℕ → List ℕ
operands_in behind.Operands text = text
operands_in behind.Remarks text = []

-- A first line from the operands on, if its operation has operands.
abbrev pub from_operands : List ℕ → List ℕ
from_operands card =
    operands_in
    (behind_of (operation_of (word (from_operation card))))
    (after_blanks (after_word (from_operation card)))

-- Column 1 isn't blank, and doesn't begin a name followed by a blank (High Level Assembler Language Reference, "Name
-- entries").
abbrev pub is_misplaced : List ℕ → Bool
is_misplaced card = nat_lt 0 (word_len card) && not (is_name (word card))

-- What a first line, columns 1 to 71 of it, says before its operand field.
abbrev pub IsHead : Head → List ℕ → Type 0
IsHead h card = (h.misplaced ≡ is_misplaced card) × (h.operation ≡ operation_of (word (from_operation card)))

-- A statement whose first line has these columns and whose operand field is this text. A name may begin in column 1;
-- the operation follows blanks (High Level Assembler Language Reference, "Instruction statement format").
abbrev pub statement_with : List ℕ → List ℕ → Result Asked FaultKind
statement_with card text =
    if is_misplaced card then Err fault.Column
    else of_operation (operation_of (word (from_operation card))) text
