use Rattle.std.proofs.Common.{◌≡◌, ◌≤◌, ◌-◌, false, [], length, take}
use Rattle.vsm_model.specs.declared.limits.Settings.{Settings}
use Rattle.explain_report.specs.Lines.{is_open}
use Rattle.explain_report.specs.Reports.{Reaches, StaysOpen}
use Rattle.explain_report.proofs.runs.take_to.Given as goal

abbrev pub invariant-loop-at : goal.invariant-loop-at
invariant-loop-at g l = record {
  within : l.at ≤ length l.script;
  begins : is_open false (take l.at l.script) ≡ false;
  stays : (settings : Settings) → Reaches settings [] l.fn.session l.fn.last → StaysOpen settings l.script l.line l.at l.session l.last;
}

abbrev pub decreases-loop-at : goal.decreases-loop-at
decreases-loop-at g l = length l.script - l.at
