use Rattle.std.proofs.Common.{◌++◌, subst, sym, ap}
use Rattle.script_steps.specs.Responses.{response_text}
use Rattle.text_output.specs.Writing.{Holds}
use Rattle.script_steps.proofs.texts.put_response.Goals as goal

pub returns-in-TooFar : goal.returns-in-TooFar
returns-in-TooFar g c = λ first text h.
    subst (Holds first (g.W.Write.contents c.put_count-in-TooFar.new.writer) c.put_count-in-TooFar.new.gathered) (ap (λ r. text ++ response_text c.args.shown.now r) (sym c.in-TooFar.is))
    (c.put_count-in-TooFar.ensures first text h)
