use Rattle.std.proofs.Common.{◌-◌, ◌≤◌, length}
use Rattle.operand_texts.specs.Runs.{AreAbove}
use Rattle.operand_texts.proofs.runs.end_of_run.Given as goal

abbrev pub invariant-loads : goal.invariant-loads
invariant-loads l = record {
  ordered : l.from ≤ l.end;
  within : l.end ≤ length l.text;
  above : AreAbove l.most l.text l.from l.end;
}

abbrev pub decreases-loads : goal.decreases-loads
decreases-loads l = length l.text - l.end
