use Rattle.std.proofs.Common.{◌≡◌, ◌≤◌, take}
use Rattle.operand_texts.specs.Field.{outside}
use Rattle.explain_faults.specs.Operands.{Starts, nesting_behind}
use Rattle.explain_faults.proofs.operands.operand_start.Given as goal

abbrev pub invariant-loop-i : goal.invariant-loop-i
invariant-loop-i l = record {
  at : l.at ≡ nesting_behind outside (take l.i l.text);
  deep : l.at.depth ≤ l.i;
  starts : Starts l.text l.i l.start;
}
