use Rattle.std.proofs.Common.{◌+◌, ap}
use Rattle.explain_why.proofs.Faulted.{fault_found, none_found}
use Rattle.explain_why.proofs.Found.{place_found}
use Rattle.explain_why.proofs.lines.place_of.Goals as goal

pub returns-in-Awaiting-clause-found : goal.returns-in-Awaiting-clause-found
returns-in-Awaiting-clause-found c =
    place_found c.args.session.now c.args.script.now c.args.at c.args.line _ c.statement_at.result (ap (λ n. n + 1) c.lines-first.ensures) c.in-Awaiting.ensures c.statement_at.ensures.found

pub returns-in-Awaiting-clause-none : goal.returns-in-Awaiting-clause-none
returns-in-Awaiting-clause-none c = none_found c.args.session.now c.args.line _ c.statement_at.result (ap (λ n. n + 1) c.lines-first.ensures) c.statement_at.ensures.none

pub returns-in-Awaiting-clause-fault : goal.returns-in-Awaiting-clause-fault
returns-in-Awaiting-clause-fault c =
    fault_found c.args.session.now c.args.script.now c.args.at c.args.line _ c.statement_at.result (ap (λ n. n + 1) c.lines-first.ensures) c.in-Awaiting.ensures c.statement_at.ensures.fault
