use Rattle.std.proofs.Common.{◌++◌, subst, sym, ap}
use Rattle.script_steps.specs.Responses.{refusal_text}
use Rattle.text_output.specs.Writing.{Holds}
use Rattle.script_steps.proofs.texts.put_refusal.Goals as goal

pub returns-in-Name : goal.returns-in-Name
returns-in-Name g c = λ first text h.
    subst (Holds first (g.W.Write.contents c.put.new.writer) c.put.new.self) (ap (λ r. text ++ refusal_text r) (sym c.in-Name.is)) (c.put.ensures.puts first text h)

pub returns-in-NoMemory : goal.returns-in-NoMemory
returns-in-NoMemory g c = λ first text h.
    subst (Holds first (g.W.Write.contents c.put-in-NoMemory.new.writer) c.put-in-NoMemory.new.self) (ap (λ r. text ++ refusal_text r) (sym c.in-NoMemory.is)) (c.put-in-NoMemory.ensures.puts first text h)
