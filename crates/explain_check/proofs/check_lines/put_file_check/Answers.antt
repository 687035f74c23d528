use Rattle.explain_check.specs.Lines.{manner_of}
use Rattle.explain_check.proofs.Said.{checks_no}
use Rattle.explain_check.proofs.check_lines.put_file_check.Goals as goal

pub returns-in_default : goal.returns-in_default
returns-in_default g c = checks_no (manner_of c.args.manner) _ _
