use Rattle.std.proofs.Common.{◌++◌, subst, sym}
use Rattle.explain_why.specs.Answers.{IsNextAnswer}
use Rattle.explain_why.proofs.Answered.{answer_put, end_answer}
use Rattle.explain_why.proofs.lines.put_answer_at_end.Goals as goal

pub returns-in-Ok-clause-answer : goal.returns-in-Ok-clause-answer
returns-in-Ok-clause-answer g c = λ settings given before took.
    let whole = given ++ c.args.rest.now in
    let all = c.in-Ok.ensures settings given before took in
    let e = c.end-ending.result in
    let next = end_answer settings whole before e (c.end-ending.ensures.brings settings whole before all) in
    let here = subst (λ t. IsNextAnswer settings whole before t e.shown.items) (sym c.or-told.ensures) next in
    answer_put settings whole before c.or-told.result c.as_slice.result.now c.put_answer-refused.result
    (g.W.Write.contents c.args.writer.now) (g.W.Write.contents c.put_answer-refused.new.writer) c.args.gathered.now c.put_answer-refused.new.gathered
    (subst (λ bytes. IsNextAnswer settings whole before c.or-told.result bytes) (sym c.as_slice.ensures.value) here)
    c.put_answer-refused.ensures.text c.put_answer-refused.ensures.refused
