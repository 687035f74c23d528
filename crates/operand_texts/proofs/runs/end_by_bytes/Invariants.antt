use Rattle.std.proofs.Common.{◌-◌, ◌≤◌, length}
use Rattle.operand_texts.specs.Runs.{AreAbove}
use Rattle.operand_texts.proofs.runs.end_by_bytes.Given as goal

abbrev pub invariant-loop-end : goal.invariant-loop-end
invariant-loop-end l = record {
  ordered : l.from ≤ l.end;
  within : l.end ≤ length l.text;
  above : AreAbove l.most l.text l.from l.end;
}

abbrev pub decreases-loop-end : goal.decreases-loop-end
decreases-loop-end l = length l.text - l.end
