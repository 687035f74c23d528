use Rattle.operand_texts.specs.Written.{written_in}
use Rattle.macro_operands.specs.Slots.{slots_in, slot, as_value}
use Rattle.macro_statements.proofs.AskedBy.{listed_by}
use Rattle.macro_statements.proofs.attach.subpools_at.Goals as goal

pub returns-in-Some-value_at : goal.returns-in-Some-value_at
returns-in-Some-value_at c =
    listed_by (as_value (slot (slots_in c.args.said.now) c.args.number)) (as_value (slot (slots_in c.args.said.now) c.args.list)) (written_in c.in-Some-value_at.address) c.in_default.ensures c.in-Some-value_at.ensures
