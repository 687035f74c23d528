use Rattle.explain_why.proofs.Found.{line_taken}
use Rattle.explain_why.proofs.lines.take_next.Goals as goal

pub returns-in-Ok-Some-clause-taken : goal.returns-in-Ok-Some-clause-taken
returns-in-Ok-Some-clause-taken g c =
    line_taken c.args.script.now c.args.at c.args.session.now c.take_line.new.self c.in-Ok-Some.field-0 c.in-Ok-Some.step c.in-Ok-Some.field-0-is
    c.in-Ok-Some.ensures.place c.in-Ok-Some.ensures.brings
