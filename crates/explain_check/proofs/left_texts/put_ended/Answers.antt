use Rattle.explain_check.proofs.left_texts.put_ended.Goals as goal

pub returns-then-ended : goal.returns-then-ended
returns-then-ended g c = rw c.if-ended.true c.put.ensures.puts
