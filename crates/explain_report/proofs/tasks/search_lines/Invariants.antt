use Rattle.std.proofs.Common.{◌≤◌, ◌-◌, [], length, take}
use Rattle.vsm_model.specs.declared.limits.Settings.{Settings}
use Rattle.explain_report.specs.Tasks.{LacksTask}
use Rattle.explain_report.proofs.tasks.search_lines.Given as goal

abbrev pub invariant-loop-at : goal.invariant-loop-at
invariant-loop-at g l = record {
  within : l.at ≤ length l.script;
  lacks : (settings : Settings) → LacksTask settings l.task [] l.fn.session → LacksTask settings l.task (take l.at l.script) l.session;
}

abbrev pub decreases-loop-at : goal.decreases-loop-at
decreases-loop-at g l = length l.script - l.at
