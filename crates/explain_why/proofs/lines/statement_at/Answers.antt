use Rattle.std.proofs.Common.{arith, refl, subst}
use Rattle.explain_why.specs.Ahead.{IsAhead}
use Rattle.explain_why.proofs.Faulted.{aside_first}
use Rattle.explain_why.proofs.lines.statement_at.Goals as goal

pub returns-in_default-clause-found : goal.returns-in_default-clause-found
returns-in_default-clause-found c = record {
  begins = refl;
  numbered = refl;
  bears = c.in_default.not-Aside;
  ahead = subst (λ text. IsAhead text c.read_ahead-ahead.result) c.rest_from.ensures c.read_ahead-ahead.ensures;
  from = omega arith;
  to = omega arith;
}

pub returns-in-Aside-clause-fault : goal.returns-in-Aside-clause-fault
returns-in-Aside-clause-fault c =
    aside_first c.args.script.now c.args.at c.args.first c.args.line c.read_ahead-ahead.result
    (subst (λ text. IsAhead text c.read_ahead-ahead.result) c.rest_from.ensures c.read_ahead-ahead.ensures) c.in-Aside.is (omega arith) (omega arith)
