use Rattle.std.proofs.Common.{[], refl}
use Rattle.explain_check.specs.Lines.{line_at, lost, manner_of}
use Rattle.explain_check.proofs.Said.{checks_no, one_line}
use Rattle.explain_check.proofs.check_lines.put_loss_check.Goals as goal

pub returns-in-Some : goal.returns-in-Some
returns-in-Some g c =
    one_line (manner_of c.args.manner) (line_at c.place_on.result (lost c.args.line.now.number c.bytes-before.result.now)) [] [] [] _ _ _ _ tt refl refl refl c.put_check_line.ensures

pub returns-in_default : goal.returns-in_default
returns-in_default g c = checks_no (manner_of c.args.manner) _ _
