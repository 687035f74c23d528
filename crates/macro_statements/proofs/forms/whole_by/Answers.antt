use Rattle.macro_operands.specs.Slots.{slots_in, slot, as_value, as_condition}
use Rattle.macro_statements.specs.Forms.{form_by}
use Rattle.macro_statements.proofs.AskedBy.{not_whole}
use Rattle.macro_statements.proofs.forms.whole_by.Goals as goal

pub returns-in-None : goal.returns-in-None
returns-in-None c =
    not_whole (as_value (slot (slots_in c.args.said.now) 2)) (as_value (slot (slots_in c.args.said.now) 1)) (form_by c.args.form (as_condition (slot (slots_in c.args.said.now) 5))) c.in-None.ensures
