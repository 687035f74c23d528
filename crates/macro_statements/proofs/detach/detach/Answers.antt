use Rattle.std.proofs.Common.{◌∙◌, ap}
use Rattle.std.specs.Option.{option_copied}
use Rattle.operand_texts.specs.Field.{operands_behind}
use Rattle.macro_statements.specs.Slots.{detach_by}
use Rattle.macro_statements.specs.Detach.{detach_of}
use Rattle.macro_statements.proofs.ReadRequests.{detach_read}
use Rattle.macro_statements.proofs.detach.detach.Goals as goal

pub returns-in-Ok : goal.returns-in-Ok
returns-in-Ok c =
    c.detach_by.ensures ∙ ap detach_by (c.in-Ok.ensures.said)
    ∙ detach_read (operands_behind (option_copied c.some_field.result)) (c.in-Ok.ensures.fine) ∙ ap detach_of c.some_field.ensures
