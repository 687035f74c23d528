use Rattle.std.proofs.Common.{Ok, ◌∙◌, ap}
use Rattle.std.specs.Option.{option_copied}
use Rattle.operand_texts.specs.Field.{operands_behind}
use Rattle.macro_statements.specs.Slots.{attach_by}
use Rattle.macro_statements.specs.Attach.{attach_of}
use Rattle.macro_statements.proofs.ReadRequests.{attach_read, attach_wrong}
use Rattle.macro_statements.proofs.attach.attach.Goals as goal

pub returns-in-Ok : goal.returns-in-Ok
returns-in-Ok c =
    ap (λ a. Ok a) c.attach_by.ensures ∙ ap (λ s. Ok (attach_by s)) (c.in-Ok.ensures.said)
    ∙ attach_read (operands_behind (option_copied c.some_field.result)) (c.in-Ok.ensures.fine) ∙ ap attach_of c.some_field.ensures

pub returns-in-Err : goal.returns-in-Err
returns-in-Err c =
    attach_wrong (operands_behind (option_copied c.some_field.result)) c.in-Err.fault c.in-Err.ensures.fault ∙ ap attach_of c.some_field.ensures
