use Rattle.std.proofs.Common.{refl}
use Rattle.explain_check.specs.Lines.{manner_of}
use Rattle.explain_check.proofs.Said.{checks_no}
use Rattle.explain_check.proofs.check_lines.put_fault_check.Goals as goal

pub returns-in-Some : goal.returns-in-Some
returns-in-Some g c = rw c.in-Some.is (c.put_caret_check.ensures c.args.line.now refl)

pub returns-in-None : goal.returns-in-None
returns-in-None g c = rw c.in-None.is (checks_no (manner_of c.args.manner) _ _)
