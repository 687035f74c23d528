use Rattle.std.proofs.Common.{◌∙◌, ap}
use Rattle.std.specs.Option.{option_copied}
use Rattle.operand_texts.specs.Field.{operands_behind}
use Rattle.macro_statements.specs.Slots.{run_by}
use Rattle.macro_statements.specs.Run.{run_of}
use Rattle.macro_statements.proofs.ReadRequests.{run_read}
use Rattle.macro_statements.proofs.run.run.Goals as goal

pub returns-in-Ok : goal.returns-in-Ok
returns-in-Ok c =
    c.run_by.ensures ∙ ap run_by (c.in-Ok.ensures.said)
    ∙ run_read (operands_behind (option_copied c.some_field.result)) (c.in-Ok.ensures.fine) ∙ ap run_of c.some_field.ensures
