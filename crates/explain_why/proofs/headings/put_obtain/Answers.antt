use Rattle.explain_reasons.proofs.Endings.{some_both}
use Rattle.explain_why.proofs.headings.put_obtain.Goals as goal

pub returns : goal.returns
returns g c =
    (some_both (g.W.Write.contents c.args.writer.now) (g.W.Write.contents c.put_lengths.new.writer) (g.W.Write.contents c.put_pieces.new.writer) c.args.gathered.now c.put_lengths.new.gathered c.put_pieces.new.gathered c.put_lengths.ensures c.put_pieces.ensures.some)
