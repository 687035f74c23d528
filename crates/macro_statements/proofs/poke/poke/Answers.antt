use Rattle.std.proofs.Common.{◌∙◌, ap}
use Rattle.std.specs.Option.{option_copied}
use Rattle.operand_texts.specs.Field.{operands_behind}
use Rattle.macro_statements.specs.Slots.{poke_by}
use Rattle.macro_statements.specs.Poke.{poke_of}
use Rattle.macro_statements.proofs.ReadRequests.{poke_read}
use Rattle.macro_statements.proofs.poke.poke.Goals as goal

pub returns-in-Ok : goal.returns-in-Ok
returns-in-Ok c =
    c.poke_by.ensures ∙ ap poke_by (c.in-Ok.ensures.said)
    ∙ poke_read (operands_behind (option_copied c.some_field.result)) (c.in-Ok.ensures.fine) ∙ ap poke_of c.some_field.ensures
