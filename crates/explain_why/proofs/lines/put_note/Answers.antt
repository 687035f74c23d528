use Rattle.std.proofs.Common.{subst, sym}
use Rattle.text_output.specs.Writing.{Puts}
use Rattle.explain_why.specs.Answers.{note_text}
use Rattle.explain_why.proofs.lines.put_note.Goals as goal

pub returns-in-NoMemory : goal.returns-in-NoMemory
returns-in-NoMemory g c =
    subst (λ r. Puts (g.W.Write.contents c.args.writer.now) (g.W.Write.contents c.put.new.writer) c.args.gathered.now c.put.new.self (note_text r))
    (sym c.in-NoMemory.is) c.put.ensures.puts
