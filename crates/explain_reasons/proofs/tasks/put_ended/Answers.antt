use Rattle.explain_reasons.proofs.Endings.{some_both}
use Rattle.explain_reasons.proofs.tasks.put_ended.Goals as goal

pub returns : goal.returns
returns g c =
    some_both (g.W.Write.contents c.args.writer.now) (g.W.Write.contents c.put_any_parent.new.writer) (g.W.Write.contents c.put_subpools_end.new.writer)
    c.args.gathered.now c.put_any_parent.new.gathered c.put_subpools_end.new.gathered c.put_any_parent.ensures c.put_subpools_end.ensures
