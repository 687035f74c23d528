use Rattle.std.proofs.Common.{◌∙◌, ap}
use Rattle.macro_operands.specs.Slots.{slots_in, slot, as_name, as_place, as_condition}
use Rattle.macro_statements.specs.Forms.{condition_by}
use Rattle.macro_statements.proofs.AskedBy.{got_by}
use Rattle.macro_statements.proofs.cpool.get_by.Goals as goal

pub returns : goal.returns
returns c =
    got_by _ _ _ (as_name (slot (slots_in c.args.said.now) 0)) (as_place (slot (slots_in c.args.said.now) 8)) (as_condition (slot (slots_in c.args.said.now) 7)) c.in-Some.ensures c.place_at.ensures (c.unwrap_or.ensures ∙ ap condition_by c.condition_at.ensures)
