use Rattle.std.proofs.Common.{[], length, sym, subst}
use Rattle.bench_core.specs.Stands.{bench_of, settings_in}
use Rattle.macro_statements.specs.Requests.{asked_in}
use Rattle.text_output.specs.Writing.{Puts}
use Rattle.text_output.proofs.Gathering.{puts_none}
use Rattle.explain_list.specs.Answers.{AreNotesOf, Notes, told_in}
use Rattle.explain_list.proofs.answers.put_answer.Goals as goal

pub returns-in-None : goal.returns-in-None
returns-in-None g c =
    let its = c.args.answered.now in
    let b = its.bench.now in
    subst (λ t. (notes : Notes) × AreNotesOf c.args.form (settings_in b) (bench_of b).present (asked_in its.request.now) t notes
    × Puts (g.W.Write.contents c.args.writer.now) (g.W.Write.contents c.args.writer.now) c.args.gathered.now c.args.gathered.now
    (told_in c.args.form (settings_in b) (bench_of b).present (length (bench_of b).past) its.shown.now t its.last notes))
    (sym c.in-None.is) (record { cause = []; name = []; pool = [] }, tt, puts_none _ _)
