use Rattle.std.proofs.Common.{◌≡◌, ◌++◌, [], IfOk, ap, false, is_some, rules, subst, sym, take, true, ◌∙◌}
use Rattle.std.specs.Prelude.{OnOk}
use Rattle.std.proofs.lemmas.List.{append-nil, take-append-drop, take_all}
use Rattle.explain_text.specs.Pieces.{PutsSome}
use Rattle.text_output.specs.Writing.{Puts}
use Rattle.explain_why.specs.Answers.{IsNextAnswer, PutsAnswer, answer_text}
use Rattle.explain_why.proofs.Answered.{answer_put, next_answer, none_more}
use Rattle.explain_why.proofs.lines.put_answer_at.Goals as goal

pub loop-at-preserved : goal.loop-at-preserved
loop-at-preserved g c =
    let place = rw c.in-Ok-Some.field-0-is at c.in-Ok-Some.ensures.place in
    let shows = rw c.in-Ok-Some.field-0-is at c.in-Ok-Some.ensures.shows in
    let none : is_some c.in-Ok-Some.step.told ≡ false = search rules in (
      place.1.within,
      c.loop-at.invariant.1,
      c.loop-at.invariant.2,
      λ settings before took.
          none_more settings c.args.script.now before c.take_line.new.self c.in-Ok-Some.step none
          (shows settings before (c.loop-at.invariant.3 settings before took)),
    )

pub returns-in-Ok-None-clause-some : goal.returns-in-Ok-None-clause-some
returns-in-Ok-None-clause-some g c =
    let r = c.put_answer_at_end.result in
    let new = g.W.Write.contents c.put_answer_at_end.new.writer in
    let after = c.put_answer_at_end.new.gathered in
    subst (λ old. OnOk r (PutsSome old new c.args.gathered.now after)) c.loop-at.invariant.1
    (subst (λ before. OnOk r (PutsSome (g.W.Write.contents c.loop-at.writer) new before after)) c.loop-at.invariant.2 c.put_answer_at_end.ensures.some)

pub returns-in-Ok-None-clause-answer : goal.returns-in-Ok-None-clause-answer
returns-in-Ok-None-clause-answer g c = λ settings before took.
    let script = c.args.script.now in
    let r = c.put_answer_at_end.result in
    let new = g.W.Write.contents c.put_answer_at_end.new.writer in
    let after = c.put_answer_at_end.new.gathered in
    let front = take c.loop-at.at script in
    let takes = rw c.in-Ok-None.field-0-is at c.in-Ok-None.ensures.takes in
    let whole : front ++ c.rest_from-rest.result.now ≡ script = ap (λ x. front ++ x) c.rest_from-rest.ensures ∙ take-append-drop c.loop-at.at script in
    subst (λ old. IfOk r (PutsAnswer settings script before old new c.args.gathered.now after)) c.loop-at.invariant.1
    (subst (λ a. IfOk r (PutsAnswer settings script before (g.W.Write.contents c.loop-at.writer) new a after)) c.loop-at.invariant.2
    (subst (λ text. IfOk r (PutsAnswer settings text before (g.W.Write.contents c.loop-at.writer) new c.loop-at.gathered after)) whole
    (c.put_answer_at_end.ensures.answer settings front before (takes settings before (c.loop-at.invariant.3 settings before took)))))

pub returns-then-is_some-clause-some : goal.returns-then-is_some-clause-some
returns-then-is_some-clause-some g c =
    let new = g.W.Write.contents c.put_answer-refused.new.writer in
    let after = c.put_answer-refused.new.gathered in
    let text = answer_text c.shown.result.now c.in-Ok-Some.step.told in (
      text,
      subst (λ old. Puts old new c.args.gathered.now after text) c.loop-at.invariant.1
          (subst (λ a. Puts (g.W.Write.contents c.loop-at.writer) new a after text) c.loop-at.invariant.2 c.put_answer-refused.ensures.text),
    )

pub returns-then-is_some-clause-answer : goal.returns-then-is_some-clause-answer
returns-then-is_some-clause-answer g c = λ settings before took.
    let script = c.args.script.now in
    let new = g.W.Write.contents c.put_answer-refused.new.writer in
    let after = c.put_answer-refused.new.gathered in
    let step = c.in-Ok-Some.step in
    let text = answer_text c.shown.result.now step.told in
    let shows = rw c.in-Ok-Some.field-0-is at c.in-Ok-Some.ensures.shows in
    let some : is_some step.told ≡ true = search rules in
    let next = next_answer settings script before c.take_line.new.self step some (shows settings before (c.loop-at.invariant.3 settings before took)) in
    answer_put settings script before step.told c.shown.result.now c.put_answer-refused.result
    (g.W.Write.contents c.args.writer.now) new c.args.gathered.now after
    (subst (λ bytes. IsNextAnswer settings script before step.told bytes) (sym c.shown.ensures) next)
    (subst (λ old. Puts old new c.args.gathered.now after text) c.loop-at.invariant.1
    (subst (λ a. Puts (g.W.Write.contents c.loop-at.writer) new a after text) c.loop-at.invariant.2 c.put_answer-refused.ensures.text))
    c.put_answer-refused.ensures.refused

pub returns-clause-some : goal.returns-clause-some
returns-clause-some g c =
    let r = c.put_answer_at_end-2.result in
    let new = g.W.Write.contents c.put_answer_at_end-2.new.writer in
    let after = c.put_answer_at_end-2.new.gathered in
    subst (λ old. OnOk r (PutsSome old new c.args.gathered.now after)) c.loop-at.invariant.1
    (subst (λ before. OnOk r (PutsSome (g.W.Write.contents c.loop-at.writer) new before after)) c.loop-at.invariant.2 c.put_answer_at_end-2.ensures.some)

pub returns-clause-answer : goal.returns-clause-answer
returns-clause-answer g c = λ settings before took.
    let script = c.args.script.now in
    let r = c.put_answer_at_end-2.result in
    let new = g.W.Write.contents c.put_answer_at_end-2.new.writer in
    let after = c.put_answer_at_end-2.new.gathered in
    let front = take c.loop-at.at script in
    let whole : front ++ [] ≡ script = append-nil front ∙ take_all c.loop-at.at script c.loop-at-test.false in
    subst (λ old. IfOk r (PutsAnswer settings script before old new c.args.gathered.now after)) c.loop-at.invariant.1
    (subst (λ a. IfOk r (PutsAnswer settings script before (g.W.Write.contents c.loop-at.writer) new a after)) c.loop-at.invariant.2
    (subst (λ text. IfOk r (PutsAnswer settings text before (g.W.Write.contents c.loop-at.writer) new c.loop-at.gathered after)) whole
    (c.put_answer_at_end-2.ensures.answer settings front before (c.loop-at.invariant.3 settings before took))))
