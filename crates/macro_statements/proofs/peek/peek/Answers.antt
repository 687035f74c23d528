use Rattle.std.proofs.Common.{◌∙◌, ap}
use Rattle.std.specs.Option.{option_copied}
use Rattle.operand_texts.specs.Field.{operands_behind}
use Rattle.macro_statements.specs.Slots.{peek_by}
use Rattle.macro_statements.specs.Peek.{peek_of}
use Rattle.macro_statements.proofs.ReadRequests.{peek_read}
use Rattle.macro_statements.proofs.peek.peek.Goals as goal

pub returns-in-Ok : goal.returns-in-Ok
returns-in-Ok c =
    c.peek_by.ensures ∙ ap peek_by (c.in-Ok.ensures.said)
    ∙ peek_read (operands_behind (option_copied c.some_field.result)) (c.in-Ok.ensures.fine) ∙ ap peek_of c.some_field.ensures
