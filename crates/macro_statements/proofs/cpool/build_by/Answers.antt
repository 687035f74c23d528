use Rattle.std.proofs.Common.{◌∙◌, ap}
use Rattle.macro_operands.specs.Slots.{slots_in, slot, as_name, as_header, as_value, as_location}
use Rattle.macro_statements.specs.Forms.{location_by}
use Rattle.macro_statements.proofs.AskedBy.{built_by}
use Rattle.vsm_model.specs.declared.causes.Family.TheVariants as family
use Rattle.macro_statements.proofs.cpool.build_by.Goals as goal

pub returns : goal.returns
returns c =
    built_by _ _ _ _ _ _ _ (as_name (slot (slots_in c.args.said.now) 0)) (as_header (slot (slots_in c.args.said.now) 6)) (as_value (slot (slots_in c.args.said.now) 1)) (as_value (slot (slots_in c.args.said.now) 2)) (as_value (slot (slots_in c.args.said.now) 3)) (as_value (slot (slots_in c.args.said.now) 4)) (as_location (slot (slots_in c.args.said.now) 5)) c.in-Some.ensures c.header_at.ensures c.in-Some-value_at.ensures c.value_at-3.ensures c.in-Some-value_at-2.ensures c.subpool_at.ensures (c.unwrap_or.ensures ∙ ap (location_by family.S) c.location_at.ensures)
