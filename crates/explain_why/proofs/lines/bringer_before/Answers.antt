use Rattle.std.proofs.Common.{IfOk, subst, sym}
use Rattle.bench_core.specs.Stands.{bench_of}
use Rattle.explain_why.specs.Obstacles.{IsItsBringer}
use Rattle.explain_why.proofs.lines.bringer_before.Goals as goal

pub returns-in-Request-clause-its : goal.returns-in-Request-clause-its
returns-in-Request-clause-its g c = λ under.
    subst (λ x. IfOk c.bringer_of.result (IsItsBringer c.args.settings (bench_of c.args.bench.now).present c.args.before.now x)) (sym c.in-Request.is)
    (c.bringer_of.ensures.its under)
