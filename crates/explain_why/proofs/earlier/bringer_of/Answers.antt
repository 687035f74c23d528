use Rattle.std.proofs.Common.{IfOk, subst, sym}
use Rattle.bench_core.specs.Stands.{bench_of}
use Rattle.macro_statements.specs.Requests.{asked_in}
use Rattle.explain_why.specs.Obstacles.{IsRequestBringer}
use Rattle.explain_why.proofs.earlier.bringer_of.Goals as goal

pub returns-in-Act-clause-its : goal.returns-in-Act-clause-its
returns-in-Act-clause-its g c = λ under.
    subst (λ x. IfOk c.bringer_of_act.result (IsRequestBringer c.args.settings (bench_of c.args.bench.now).present c.args.script.now (asked_in x))) (sym c.in-Act.is)
    (c.bringer_of_act.ensures.its under)
