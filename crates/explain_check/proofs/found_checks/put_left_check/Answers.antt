use Rattle.std.proofs.Common.{[], ◌∷◌, refl}
use Rattle.explain_check.specs.Findings.{left}
use Rattle.explain_check.specs.Lines.{found, line_at, manner_of}
use Rattle.explain_check.proofs.Said.{checks_no, one_line}
use Rattle.explain_check.proofs.found_checks.put_left_check.Goals as goal

pub returns-in-Some : goal.returns-in-Some
returns-in-Some g c =
    let its = left c.in-Some.left.now in
    rw c.in-Some.is (one_line (manner_of c.args.manner) (line_at c.operation_place.result (found its)) [] [] (its ∷ []) _ _ _ _ tt refl refl refl c.put_check_line.ensures)

pub returns-in-None : goal.returns-in-None
returns-in-None g c = rw c.in-None.is (checks_no (manner_of c.args.manner) _ _)
