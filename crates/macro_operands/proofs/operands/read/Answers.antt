use Rattle.std.proofs.Common.{◌∙◌, sym}
use Rattle.operand_texts.specs.Field.{outside, operands_from}
use Rattle.macro_operands.specs.Slots.{row_in, slots_in}
use Rattle.macro_operands.proofs.ReadSlots.{fault_read, said_read}
use Rattle.macro_operands.proofs.operands.read.Goals as goal

pub returns-in-Some-take_all-clause-fault : goal.returns-in-Some-take_all-clause-fault
returns-in-Some-take_all-clause-fault c =
    rw c.in-Some.is (
    sym (fault_read (row_in c.args.row.now) (slots_in c.args.said.now) (slots_in c.take_all.new.said) (operands_from outside c.in-Some.text.now)
    c.take_all.result c.requires.empty c.take_all.ensures) ∙ c.in-Some-take_all.is
    )

pub returns-in-None-clause-said : goal.returns-in-None-clause-said
returns-in-None-clause-said c =
    rw c.in-Some.is (
    said_read (row_in c.args.row.now) (slots_in c.args.said.now) (slots_in c.take_all.new.said) (operands_from outside c.in-Some.text.now)
    c.take_all.result c.requires.empty c.requires.apart c.take_all.ensures c.in-None.is
    )

pub returns-in-None-clause-fine : goal.returns-in-None-clause-fine
returns-in-None-clause-fine c =
    rw c.in-Some.is (
    sym (fault_read (row_in c.args.row.now) (slots_in c.args.said.now) (slots_in c.take_all.new.said) (operands_from outside c.in-Some.text.now)
    c.take_all.result c.requires.empty c.take_all.ensures) ∙ c.in-None.is
    )
