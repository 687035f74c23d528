use Rattle.std.proofs.Common.{◌++◌, sym, subst}
use Rattle.script_steps.specs.Run.{TakesRead}
use Rattle.script_steps.specs.declared.faults.RunFault.TheVariants as fault
use Rattle.script_steps.proofs.Outcomes.{write_fault, bound_fault, passed_up}
use Rattle.script_steps.proofs.runs.take_read.Goals as goal

pub returns-in_err-hand_out-clause-takes : goal.returns-in_err-hand_out-clause-takes
returns-in_err-hand_out-clause-takes g c = λ settings first given h.
    let all = given ++ c.args.piece.now in
    let new = g.W.Write.contents c.hand_out.new.writer in
    subst (TakesRead settings first new c.hand_out.new.self all c.take_piece-taken.new.session) (sym (passed_up c.from_residual.result fault.Write c.from_residual.ensures.1))
    (λ left. write_fault settings first (g.W.Write.contents c.take_piece-taken.new.writer) new left c.take_piece-taken.new.gathered all c.take_piece-taken.new.session
    c.take_piece-taken.result (c.take_piece-taken.ensures settings first given h) (c.in_err-hand_out.ensures.writes first))

pub returns-in_err-taken-clause-takes : goal.returns-in_err-taken-clause-takes
returns-in_err-taken-clause-takes g c = λ settings first given h.
    let all = given ++ c.args.piece.now in
    let new = g.W.Write.contents c.hand_out.new.writer in
    subst (TakesRead settings first new c.hand_out.new.self all c.take_piece-taken.new.session)
    (sym (passed_up c.from_residual-in_err-taken.result fault.TooLong c.from_residual-in_err-taken.ensures.1))
    (λ left. bound_fault settings first (g.W.Write.contents c.take_piece-taken.new.writer) new left c.take_piece-taken.new.gathered all
    (c.in_err-taken.ensures settings first given h) (c.in_ok-hand_out.ensures.writes first))
