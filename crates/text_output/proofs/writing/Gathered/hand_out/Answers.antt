use Rattle.std.proofs.Common.{subst}
use Rattle.text_output.specs.Writing.{HoldsWhere, Writes}
use Rattle.text_output.proofs.Gathering.{handed_out, none_failed}
use Rattle.text_output.proofs.writing.Gathered.hand_out.Goals as goal

pub returns-clause-writes : goal.returns-clause-writes
returns-clause-writes g c = λ first text h.
    let gathered = c.args.self.now in
    let well = none_failed gathered.fault c.in_default.not-Some in
    let old = g.W.Write.contents c.args.writer.now in
    let new = g.W.Write.contents c.write_out-outcome.new.writer in
    handed_out first old new gathered.text.items text c.write_out-outcome.result
    (subst (λ t. Writes old new t c.write_out-outcome.result) c.as_slice.ensures.value c.write_out-outcome.ensures.writes)
    (subst (λ b. HoldsWhere b first old gathered.text.items text) well h)
