use Rattle.std.specs.Prelude.{codes}
use Rattle.explain_reasons.proofs.Endings.{some_both}
use Rattle.explain_why.proofs.headings.put_attach.Goals as goal

pub returns : goal.returns
returns g c =
    (some_both (g.W.Write.contents c.args.writer.now) (g.W.Write.contents c.put_passed-2.new.writer) (g.W.Write.contents c.put-2.new.writer) c.args.gathered.now c.put_passed-2.new.gathered c.put-2.new.self (some_both (g.W.Write.contents c.args.writer.now) (g.W.Write.contents c.put_passed.new.writer) (g.W.Write.contents c.put_passed-2.new.writer) c.args.gathered.now c.put_passed.new.gathered c.put_passed-2.new.gathered (some_both (g.W.Write.contents c.args.writer.now) (g.W.Write.contents c.put.new.writer) (g.W.Write.contents c.put_passed.new.writer) c.args.gathered.now c.put.new.self c.put_passed.new.gathered (codes "a new task", c.put.ensures.puts) c.put_passed.ensures) c.put_passed-2.ensures) (codes "\n", c.put-2.ensures.puts))
