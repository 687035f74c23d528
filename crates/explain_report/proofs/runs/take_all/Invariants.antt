use Rattle.std.proofs.Common.{◌≡◌, ◌≤◌, ◌-◌, false, [], length, take}
use Rattle.vsm_model.specs.declared.limits.Settings.{Settings}
use Rattle.explain_report.specs.Lines.{is_open}
use Rattle.explain_report.specs.Reports.{Reaches}
use Rattle.explain_report.proofs.runs.take_all.Given as goal

abbrev pub invariant-loop-at : goal.invariant-loop-at
invariant-loop-at g l = record {
  within : l.at ≤ length l.script;
  begins : is_open false (take l.at l.script) ≡ false;
  reaches : (settings : Settings) → Reaches settings [] l.fn.session l.fn.last → Reaches settings (take l.at l.script) l.session l.last;
}

abbrev pub decreases-loop-at : goal.decreases-loop-at
decreases-loop-at g l = length l.script - l.at
