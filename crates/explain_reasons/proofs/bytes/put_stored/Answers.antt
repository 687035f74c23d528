use Rattle.explain_reasons.proofs.Endings.{some_of, some_both}
use Rattle.explain_reasons.proofs.bytes.put_stored.Goals as goal

pub returns : goal.returns
returns g c =
    some_both (g.W.Write.contents c.args.writer.now) (g.W.Write.contents c.put_pages.new.writer) (g.W.Write.contents c.put_free_bytes.new.writer)
    c.args.gathered.now c.put_pages.new.gathered c.put_free_bytes.new.gathered (some_of _ _ _ _ _ c.put_pages.ensures) c.put_free_bytes.ensures
