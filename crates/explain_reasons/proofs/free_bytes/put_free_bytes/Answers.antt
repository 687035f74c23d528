use Rattle.explain_reasons.proofs.Endings.{some_both}
use Rattle.explain_reasons.proofs.free_bytes.put_free_bytes.Goals as goal

pub returns : goal.returns
returns g c =
    some_both (g.W.Write.contents c.args.writer.now) (g.W.Write.contents c.put_first_free.new.writer) (g.W.Write.contents c.put_first_free-2.new.writer)
    c.args.gathered.now c.put_first_free.new.gathered c.put_first_free-2.new.gathered c.put_first_free.ensures c.put_first_free-2.ensures
