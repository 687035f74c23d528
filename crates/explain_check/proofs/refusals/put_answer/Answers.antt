use Rattle.std.proofs.Common.{Option, subst}
use Rattle.macro_statements.specs.Requests.{asked_in}
use Rattle.bench_core.specs.Refusal.{Refusal}
use Rattle.bench_core.specs.Stands.{bench_of, settings_in}
use Rattle.explain_check.specs.Reasons.{IsReason}
use Rattle.explain_check.proofs.refusals.put_answer.Goals as goal

pub returns-in-Some : goal.returns-in-Some
returns-in-Some g c =
    let b = c.args.answered.now.bench.now in
    let e = c.put_refused.ensures in
    (e.0, subst (λ (w : Option Refusal). IsReason (settings_in b) (bench_of b).present (asked_in c.args.answered.now.request.now) w e.0) c.in-Some.ensures e.1, e.2, e.3)

pub returns-in-None : goal.returns-in-None
returns-in-None g c =
    let b = c.args.answered.now.bench.now in
    let e = c.put_step.ensures in
    (e.0, subst (λ (w : Option Refusal). IsReason (settings_in b) (bench_of b).present (asked_in c.args.answered.now.request.now) w e.0) c.in-None.ensures tt, e.1, e.2)
