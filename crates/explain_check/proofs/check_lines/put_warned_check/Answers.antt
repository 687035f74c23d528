use Rattle.std.proofs.Common.{[], refl}
use Rattle.explain_check.specs.Lines.{line_at, manner_of, warned}
use Rattle.explain_check.proofs.Said.{one_line}
use Rattle.explain_check.proofs.check_lines.put_warned_check.Goals as goal

pub returns : goal.returns
returns g c =
    one_line (manner_of c.args.spot.now.manner) (line_at c.args.spot.now.place (warned c.one_line.result.now)) [] [] [] _ _ _ _ c.one_line.ensures refl refl refl c.put_check_line.ensures
