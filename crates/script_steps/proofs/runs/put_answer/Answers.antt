use Rattle.std.proofs.Common.{subst}
use Rattle.bench_core.specs.Stands.{bench_of, settings_in}
use Rattle.script_steps.specs.Answers.{told_text}
use Rattle.text_output.specs.Writing.{Puts}
use Rattle.script_steps.proofs.runs.put_answer.Goals as goal

pub returns : goal.returns
returns g c =
    let old = g.W.Write.contents c.args.writer.now in
    let new = g.W.Write.contents c.put_told.new.writer in
    let told = c.args.told.now in
    subst (λ b. Puts old new c.args.gathered.now c.put_told.new.gathered (told_text (settings_in b) (bench_of b) c.args.session.now.shown.items told)) c.bench.ensures
    (subst (λ x. Puts old new c.args.gathered.now c.put_told.new.gathered (told_text (settings_in c.bench.result.now) (bench_of c.bench.result.now) x told))
    c.shown.ensures c.put_told.ensures)
