use Rattle.macro_operands.specs.Slots.{slots_in, slot, as_value, as_size}
use Rattle.macro_statements.proofs.AskedBy.{shown_by}
use Rattle.macro_statements.proofs.peek.peek_by.Goals as goal

pub returns : goal.returns
returns c =
    shown_by _ _ (as_value (slot (slots_in c.args.said.now) 0)) (as_size (slot (slots_in c.args.said.now) 1)) c.in-Some.ensures c.in-Some-size_at.ensures
