use Rattle.std.proofs.Common.{[]}
use Rattle.explain_check.specs.Lines.{manner_of}
use Rattle.explain_check.proofs.Said.{checks_no, checks_each}
use Rattle.explain_check.proofs.check_lines.put_warning_checks.Goals as goal

pub loop-i-init : goal.loop-i-init
loop-i-init g c = checks_no (manner_of c.args.manner) _ _

pub loop-i-preserved : goal.loop-i-preserved
loop-i-preserved g c = checks_each (manner_of c.args.manner) [] [] [] [] [] [] _ _ _ _ _ _ c.loop-i.invariant c.put_warned_check.ensures

pub returns-in-None : goal.returns-in-None
returns-in-None g c = c.loop-i.invariant
