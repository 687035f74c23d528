use Rattle.std.proofs.Common.{sym}
use Rattle.vsm_model.specs.Meaning.{service_in}
use Rattle.macro_statements.specs.Requests.{act_in}
use Rattle.bench_core.specs.Stands.{bench_of, settings_in}
use Rattle.explain_reasons.proofs.Endings.{some_both}
use Rattle.explain_why.proofs.FirstCause.{found_told, unknown_act}
use Rattle.explain_why.proofs.causes.put_statement.Goals as goal

pub returns-in_default-clause-told : goal.returns-in_default-clause-told
returns-in_default-clause-told g c =
    unknown_act (settings_in c.args.bench.now) (bench_of c.args.bench.now).present (act_in c.args.statement.now)
    (g.W.Write.contents c.args.writer.now) (g.W.Write.contents c.put.new.writer) c.args.gathered.now c.put.new.self (sym c.in_default.ensures)

pub returns-in-Ok-clause-told : goal.returns-in-Ok-clause-told
returns-in-Ok-clause-told g c =
    let b = c.args.bench.now in
    found_told c.storage.result.now (settings_in b) (bench_of b).present (act_in c.args.statement.now) (service_in c.in-Some.service) c.in-Ok.cause
    (g.W.Write.contents c.args.writer.now) (g.W.Write.contents c.put_heading.new.writer) (g.W.Write.contents c.put_cause.new.writer)
    c.args.gathered.now c.put_heading.new.gathered c.put_cause.new.gathered c.storage.ensures.settings c.storage.ensures.state
    (sym c.in-Some.ensures) c.in-Ok.ensures c.put_heading.ensures c.put_cause.ensures.told c.put_cause.ensures.effect

pub returns-in-Ok-clause-some : goal.returns-in-Ok-clause-some
returns-in-Ok-clause-some g c =
    some_both (g.W.Write.contents c.args.writer.now) (g.W.Write.contents c.put_heading.new.writer) (g.W.Write.contents c.put_cause.new.writer)
    c.args.gathered.now c.put_heading.new.gathered c.put_cause.new.gathered c.put_heading.ensures c.put_cause.ensures.some

pub returns-in-Err-clause-told : goal.returns-in-Err-clause-told
returns-in-Err-clause-told g c =
    unknown_act (settings_in c.args.bench.now) (bench_of c.args.bench.now).present (act_in c.args.statement.now)
    (g.W.Write.contents c.args.writer.now) (g.W.Write.contents c.put_heading.new.writer) c.args.gathered.now c.put_heading.new.gathered c.in-Err.ensures
