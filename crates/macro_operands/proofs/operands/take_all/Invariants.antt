use Rattle.std.proofs.Common.{◌≡◌, ◌+◌, ◌≤◌, length}
use Rattle.operand_texts.specs.Field.{outside, operands_from}
use Rattle.macro_operands.specs.Slots.{row_in, slots_in, with_operands}
use Rattle.macro_operands.proofs.operands.take_all.Given as goal

abbrev pub invariant-operands : goal.invariant-operands
invariant-operands l =
    (with_operands (row_in l.row) (slots_in l.said) l.place (operands_from outside l.rest)
    ≡ with_operands (row_in l.row) (slots_in l.fn.said) 0 (operands_from outside l.text))
    × (l.place + length l.rest ≤ length l.text)

abbrev pub decreases-operands : goal.decreases-operands
decreases-operands l = length l.rest
