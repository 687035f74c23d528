use Rattle.std.proofs.Common.{◌≡◌, ◌+◌, ◌-◌, ◌≤◌, length, drop}
use Rattle.operand_texts.specs.Field.{outside, operand_len}
use Rattle.operand_texts.proofs.nesting.operand_len.Given as goal

abbrev pub invariant-marks : goal.invariant-marks
invariant-marks l = record {
  far : l.i + operand_len l.at (drop l.i l.text) ≡ operand_len outside l.text;
  depth : l.at.depth ≤ l.i;
  within : l.i ≤ length l.text;
}

abbrev pub decreases-marks : goal.decreases-marks
decreases-marks l = length l.text - l.i
