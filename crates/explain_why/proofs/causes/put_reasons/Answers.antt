use Rattle.std.proofs.Common.{◌≡◌, ap, length, subst, sym}
use Rattle.macro_statements.specs.Requests.{asked_in, written_in}
use Rattle.bench_core.specs.Stands.{bench_of, settings_in}
use Rattle.explain_reasons.proofs.Endings.{some_both, some_of}
use Rattle.explain_why.specs.Told.{TellsReading, TellsRequest, kept_text, undone_text}
use Rattle.explain_why.proofs.FirstCause.{among_last}
use Rattle.explain_why.proofs.causes.put_reasons.Goals as goal

pub returns-in-Peek-clause-told : goal.returns-in-Peek-clause-told
returns-in-Peek-clause-told g c =
    let b = c.args.bench.now in
    let old = g.W.Write.contents c.args.writer.now in
    let new = g.W.Write.contents c.put_peek.new.writer in
    let before = c.args.gathered.now in
    let after = c.put_peek.new.gathered in
    subst (λ q. TellsRequest (settings_in b) (bench_of b).present (length (bench_of b).past) (length (bench_of b).later) (asked_in q) old new before after) (sym c.in-Peek.is)
    (subst (λ n. TellsReading (bench_of b).present (written_in c.in-Peek.addr) n old new before after) c.from.ensures c.put_peek.ensures.told)

pub returns-in-Back-clause-told : goal.returns-in-Back-clause-told
returns-in-Back-clause-told g c =
    let b = c.args.bench.now in
    let old = g.W.Write.contents c.args.writer.now in
    let new = g.W.Write.contents c.put_step.new.writer in
    let before = c.args.gathered.now in
    let after = c.put_step.new.gathered in
    subst (λ q. TellsRequest (settings_in b) (bench_of b).present (length (bench_of b).past) (length (bench_of b).later) (asked_in q) old new before after) (sym c.in-Back.is)
    (among_last (λ text. text ≡ kept_text (length (bench_of b).past)) (kept_text c.kept.result) old (g.W.Write.contents c.put_number.new.writer) new
    before c.put_number.new.gathered after (ap kept_text c.kept.ensures) c.put_number.ensures c.put_step.ensures)

pub returns-in-Back-clause-some : goal.returns-in-Back-clause-some
returns-in-Back-clause-some g c =
    some_both (g.W.Write.contents c.args.writer.now) (g.W.Write.contents c.put_number.new.writer) (g.W.Write.contents c.put_step.new.writer)
    c.args.gathered.now c.put_number.new.gathered c.put_step.new.gathered c.put_number.ensures (some_of _ _ _ _ _ c.put_step.ensures)

pub returns-in-Forward-clause-told : goal.returns-in-Forward-clause-told
returns-in-Forward-clause-told g c =
    let b = c.args.bench.now in
    let old = g.W.Write.contents c.args.writer.now in
    let new = g.W.Write.contents c.put_step-in-Forward.new.writer in
    let before = c.args.gathered.now in
    let after = c.put_step-in-Forward.new.gathered in
    subst (λ q. TellsRequest (settings_in b) (bench_of b).present (length (bench_of b).past) (length (bench_of b).later) (asked_in q) old new before after) (sym c.in-Forward.is)
    (among_last (λ text. text ≡ undone_text (length (bench_of b).later)) (undone_text c.undone.result) old (g.W.Write.contents c.put_number-in-Forward.new.writer) new
    before c.put_number-in-Forward.new.gathered after (ap undone_text c.undone.ensures) c.put_number-in-Forward.ensures c.put_step-in-Forward.ensures)

pub returns-in-Forward-clause-some : goal.returns-in-Forward-clause-some
returns-in-Forward-clause-some g c =
    some_both (g.W.Write.contents c.args.writer.now) (g.W.Write.contents c.put_number-in-Forward.new.writer) (g.W.Write.contents c.put_step-in-Forward.new.writer)
    c.args.gathered.now c.put_number-in-Forward.new.gathered c.put_step-in-Forward.new.gathered c.put_number-in-Forward.ensures
    (some_of _ _ _ _ _ c.put_step-in-Forward.ensures)
