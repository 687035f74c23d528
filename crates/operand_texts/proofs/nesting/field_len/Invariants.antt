use Rattle.std.proofs.Common.{◌≡◌, ◌+◌, ◌≤◌, drop}
use Rattle.operand_texts.specs.Field.{field_len}
use Rattle.operand_texts.proofs.nesting.field_len.Given as goal

abbrev pub invariant-loop-i : goal.invariant-loop-i
invariant-loop-i l = record {
  far : l.i + field_len l.at (drop l.i l.text) ≡ field_len l.fn.start l.text;
  depth : l.at.depth ≤ l.fn.start.depth + l.i;
}
