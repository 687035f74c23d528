use Rattle.std.proofs.Common.{◌∷◌, [], ◌++◌, arith, subst, sym}
use Rattle.bench_core.specs.Stands.{bench_of}
use Rattle.script_steps.specs.Answers.{told_text}
use Rattle.script_steps.specs.Taken.{IsTold}
use Rattle.script_steps.proofs.Outcomes.{out_more}
use Rattle.script_steps.proofs.Takes.{past_lines}
use Rattle.script_steps.proofs.runs.take_feed.Goals as goal

pub returns-then-lines-ge-LINES : goal.returns-then-lines-ge-LINES
returns-then-lines-ge-LINES g c = λ settings first given h. record {
  answers = h.answers;
  past = λ behind. past_lines settings given h.answers c.args.session.now h.took (10 ∷ []) behind (omega arith) (omega (arith, c.if-lines-ge-LINES.true, c.lines.ensures));
  out = h.out;
}

pub returns : goal.returns
returns g c = λ settings first given h.
    let e = c.end_line-told.ensures settings given h.answers h.took in
    let now = bench_of c.end_line-told.new.self.bench in
    let bytes = c.end_line-told.new.self.shown.items in
    let told = subst (λ s. IsTold settings h.answers e.0 (told_text s now bytes c.end_line-told.result)) (sym e.3.under) e.1 in
    record {
      answers = h.answers ++ e.0;
      took = e.3;
      out = out_more settings first _ _ _ _ h.answers e.0 _ told c.put_answer.ensures h.out;
    }
