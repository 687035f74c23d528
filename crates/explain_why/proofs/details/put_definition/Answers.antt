use Rattle.std.proofs.Common.{subst, sym}
use Rattle.text_output.specs.Writing.{Puts}
use Rattle.explain_why.specs.Details.{definition_text}
use Rattle.explain_why.proofs.details.put_definition.Goals as goal

pub returns-in-Missing : goal.returns-in-Missing
returns-in-Missing g c =
    subst (λ d. Puts (g.W.Write.contents c.args.writer.now) (g.W.Write.contents c.put.new.writer) c.args.gathered.now c.put.new.self (definition_text d))
    (sym c.in-Missing.is) c.put.ensures.puts
