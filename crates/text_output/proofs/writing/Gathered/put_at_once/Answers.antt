use Rattle.std.proofs.Common.{◌++◌, sym, subst, is_some}
use Rattle.text_output.specs.Writing.{HoldsWhere}
use Rattle.text_output.proofs.Gathering.{written_where, held_failed}
use Rattle.text_output.proofs.writing.Gathered.put_at_once.Goals as goal

pub returns-in-Ok : goal.returns-in-Ok
returns-in-Ok g c = λ first text h.
    let now = g.W.Write.contents c.hand_out.new.writer in
    let new = g.W.Write.contents c.write_out.new.writer in
    let failed = is_some c.err-self.result in
    subst (λ t. HoldsWhere failed first new t (text ++ c.args.more.now)) (sym c.in-Ok.ensures.empty.0)
    (written_where failed first now new text c.args.more.now c.write_out.result c.err-self.ensures.variant c.write_out.ensures.writes
    (c.in-Ok.ensures.writes first text h))

pub returns-in_default : goal.returns-in_default
returns-in_default g c = λ first text h.
    held_failed first (g.W.Write.contents c.hand_out.new.writer) c.hand_out.new.self text c.args.more.now c.in_default.ensures.failed
    (c.in_default.ensures.writes first text h)
