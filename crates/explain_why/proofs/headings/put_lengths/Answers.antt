use Rattle.std.specs.Prelude.{codes}
use Rattle.explain_reasons.proofs.Endings.{some_both}
use Rattle.explain_why.proofs.headings.put_lengths.Goals as goal

pub returns-in-Variable : goal.returns-in-Variable
returns-in-Variable g c =
    (some_both (g.W.Write.contents c.args.writer.now) (g.W.Write.contents c.put_length-in-Variable-2.new.writer) (g.W.Write.contents c.put-in-Variable.new.writer) c.args.gathered.now c.put_length-in-Variable-2.new.gathered c.put-in-Variable.new.self (some_both (g.W.Write.contents c.args.writer.now) (g.W.Write.contents c.put.new.writer) (g.W.Write.contents c.put_length-in-Variable-2.new.writer) c.args.gathered.now c.put.new.self c.put_length-in-Variable-2.new.gathered (some_both (g.W.Write.contents c.args.writer.now) (g.W.Write.contents c.put_length-in-Variable.new.writer) (g.W.Write.contents c.put.new.writer) c.args.gathered.now c.put_length-in-Variable.new.gathered c.put.new.self c.put_length-in-Variable.ensures (codes " at most, and ", c.put.ensures.puts)) c.put_length-in-Variable-2.ensures) (codes " at least", c.put-in-Variable.ensures.puts))
