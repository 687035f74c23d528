use Rattle.std.proofs.Common.{◌≡◌, ◌+◌, ◌-◌, ◌≤◌, length, take, drop}
use Rattle.operand_texts.specs.Field.{field_len, nesting_after}
use Rattle.macro_reader.proofs.continuation.field_part.Given as goal

abbrev pub invariant-marks : goal.invariant-marks
invariant-marks l = record {
  far : l.i + field_len l.at (drop l.i l.text) ≡ field_len l.fn.start l.text;
  at : l.at ≡ nesting_after l.fn.start (take l.i l.text);
  depth : l.at.depth ≤ l.fn.start.depth + l.i;
  within : l.i ≤ length l.text;
}

abbrev pub decreases-marks : goal.decreases-marks
decreases-marks l = length l.text - l.i
