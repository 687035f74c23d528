use Rattle.std.proofs.Common.{subst, sym}
use Rattle.text_output.specs.Writing.{Puts}
use Rattle.explain_why.specs.Answers.{answer_text}
use Rattle.explain_why.proofs.lines.put_answer.Goals as goal

pub returns-in-None-clause-text : goal.returns-in-None-clause-text
returns-in-None-clause-text g c =
    subst (λ t. Puts (g.W.Write.contents c.args.writer.now) (g.W.Write.contents c.put.new.writer) c.args.gathered.now c.put.new.self (answer_text c.args.shown.now t))
    (sym c.in-None.is) c.put.ensures.puts
