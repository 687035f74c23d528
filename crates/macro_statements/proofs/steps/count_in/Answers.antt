use Rattle.std.proofs.Common.{◌∙◌, ap}
use Rattle.std.specs.Option.{option_copied}
use Rattle.operand_texts.specs.Field.{operands_behind}
use Rattle.macro_statements.specs.Slots.{count_by}
use Rattle.macro_statements.specs.Steps.{count_in}
use Rattle.macro_statements.proofs.ReadRequests.{count_read}
use Rattle.macro_statements.proofs.steps.count_in.Goals as goal

pub returns-in-Ok : goal.returns-in-Ok
returns-in-Ok c =
    c.count_by.ensures ∙ ap count_by (c.in-Ok.ensures.said)
    ∙ count_read (operands_behind (option_copied c.some_field.result)) (c.in-Ok.ensures.fine) ∙ ap count_in c.some_field.ensures
