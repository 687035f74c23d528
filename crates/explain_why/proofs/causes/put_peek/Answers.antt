use Rattle.std.proofs.Common.{◌≡◌, sym}
use Rattle.macro_statements.specs.Requests.{written_in}
use Rattle.bench_core.specs.Stands.{bench_of}
use Rattle.storage_core.specs.Meaning.{state_of}
use Rattle.explain_reasons.specs.Pages.{pages_text}
use Rattle.explain_why.proofs.FirstCause.{reading_told, some_among, unknown_reading}
use Rattle.explain_why.proofs.causes.put_peek.Goals as goal

pub returns-in-Some-clause-told : goal.returns-in-Some-clause-told
returns-in-Some-clause-told g c =
    let s = c.storage.result.now in
    reading_told (bench_of c.args.bench.now).present (state_of s) (written_in c.args.address) c.in-Some.address c.args.count
    (g.W.Write.contents c.args.writer.now) (g.W.Write.contents c.put_bytes.new.writer) c.args.gathered.now c.put_bytes.new.gathered
    c.storage.ensures.state (sym c.in-Some.ensures) c.put_bytes.ensures

pub returns-in-Some-clause-some : goal.returns-in-Some-clause-some
returns-in-Some-clause-some g c =
    some_among (λ text. text ≡ pages_text (state_of c.storage.result.now) c.in-Some.address c.args.count)
    (g.W.Write.contents c.args.writer.now) (g.W.Write.contents c.put_bytes.new.writer) c.args.gathered.now c.put_bytes.new.gathered c.put_bytes.ensures

pub returns-in-None-clause-told : goal.returns-in-None-clause-told
returns-in-None-clause-told g c =
    unknown_reading (bench_of c.args.bench.now).present (written_in c.args.address) c.args.count
    (g.W.Write.contents c.args.writer.now) (g.W.Write.contents c.put.new.writer) c.args.gathered.now c.put.new.self (sym c.in-None.ensures)
