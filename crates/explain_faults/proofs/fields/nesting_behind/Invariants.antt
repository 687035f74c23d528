use Rattle.std.proofs.Common.{◌≡◌, ◌+◌, ◌≤◌, take}
use Rattle.operand_texts.specs.Field.{nesting_after}
use Rattle.explain_faults.proofs.fields.nesting_behind.Given as goal

abbrev pub invariant-loop-byte : goal.invariant-loop-byte
invariant-loop-byte l = record {
  at : l.at ≡ nesting_after l.fn.start (take l.byte-index l.text);
  depth : l.at.depth ≤ l.fn.start.depth + l.byte-index;
}
