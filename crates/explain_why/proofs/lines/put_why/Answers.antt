use Rattle.std.proofs.Common.{length, sym, subst}
use Rattle.std.specs.Prelude.{codes}
use Rattle.macro_statements.specs.Requests.{asked_in}
use Rattle.bench_core.specs.Stands.{bench_of, settings_in}
use Rattle.explain_why.specs.Answers.{first_text}
use Rattle.explain_why.specs.Told.{TellsAhead}
use Rattle.explain_why.proofs.FirstCause.{told_behind}
use Rattle.explain_why.proofs.Answered.{begins}
use Rattle.explain_why.proofs.lines.put_why.Goals as goal

pub returns-in-Request-clause-told : goal.returns-in-Request-clause-told
returns-in-Request-clause-told g c =
    let b = c.args.bench.now in
    let old = g.W.Write.contents c.args.writer.now in
    let now = g.W.Write.contents c.put_first.new.writer in
    let new = g.W.Write.contents c.put_reasons.new.writer in
    subst (λ q. TellsAhead (settings_in b) (bench_of b).present (length (bench_of b).past) (length (bench_of b).later) q old new c.args.gathered.now c.put_reasons.new.gathered) (sym c.in-Request.is)
    (told_behind (settings_in b) (bench_of b).present (length (bench_of b).past) (length (bench_of b).later) (asked_in c.in-Request.request) old now new
    c.args.gathered.now c.put_first.new.gathered c.put_reasons.new.gathered
    (first_text c.args.place.now.first c.args.line, c.put_first.ensures) c.put_reasons.ensures.told)

pub returns-in-Request-clause-begins : goal.returns-in-Request-clause-begins
returns-in-Request-clause-begins g c =
    begins (first_text c.args.place.now.first c.args.line) (g.W.Write.contents c.args.writer.now) (g.W.Write.contents c.put_first.new.writer) (g.W.Write.contents c.put_reasons.new.writer)
    c.args.gathered.now c.put_first.new.gathered c.put_reasons.new.gathered c.put_first.ensures c.put_reasons.ensures.some

pub returns-in-Fault-clause-begins : goal.returns-in-Fault-clause-begins
returns-in-Fault-clause-begins g c =
    begins (first_text c.args.place.now.first c.args.line) (g.W.Write.contents c.args.writer.now) (g.W.Write.contents c.put_first.new.writer) (g.W.Write.contents c.put_fault_heading.new.writer)
    c.args.gathered.now c.put_first.new.gathered c.put_fault_heading.new.gathered c.put_first.ensures c.put_fault_heading.ensures

pub returns-in-Open-clause-begins : goal.returns-in-Open-clause-begins
returns-in-Open-clause-begins g c =
    begins (first_text c.args.place.now.first c.args.line) (g.W.Write.contents c.args.writer.now) (g.W.Write.contents c.put_first.new.writer) (g.W.Write.contents c.put.new.writer)
    c.args.gathered.now c.put_first.new.gathered c.put.new.self c.put_first.ensures (codes "the script ends within the statement\n", c.put.ensures.puts)
