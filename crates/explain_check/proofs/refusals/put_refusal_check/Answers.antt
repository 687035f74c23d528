use Rattle.std.proofs.Common.{[], ◌∷◌, List, Option, ℕ, ap, refl, subst}
use Rattle.macro_statements.specs.Requests.{asked_in}
use Rattle.script_steps.specs.declared.responses.Response.{Response}
use Rattle.bench_core.specs.Stands.{bench_of, settings_in}
use Rattle.explain_check.specs.Lines.{Said, line_at, manner_of, refused}
use Rattle.explain_check.specs.Reasons.{IsSaidOf}
use Rattle.explain_check.proofs.Said.{checks_no, one_line}
use Rattle.explain_check.proofs.refusals.put_refusal_check.Goals as goal

pub returns-in-Some : goal.returns-in-Some
returns-in-Some g c =
    let answer = c.in-Some.answer in
    let b = c.args.answered.now.bench.now in
    let e = c.put_answer.ensures in
    let said : ℕ → List Said = λ n. record { number = n; answer = answer; words = e.0 } ∷ [] in (
      said c.in-Some.number,
      subst (λ (r : Option (ℕ × Response)). IsSaidOf (settings_in b) (bench_of b).present (asked_in c.args.answered.now.request.now) r (said c.in-Some.number)) c.in-Some.ensures (e.0, e.1, refl),
      one_line (manner_of c.args.manner) (line_at c.operation_place.result (refused answer e.0)) [] (said c.in-Some.number) [] _ _ _ _ e.2 refl (ap said c.operation_place.ensures) refl e.3,
    )

pub returns-in-None : goal.returns-in-None
returns-in-None g c =
    let b = c.args.answered.now.bench.now in (
      [],
      subst (λ (r : Option (ℕ × Response)). IsSaidOf (settings_in b) (bench_of b).present (asked_in c.args.answered.now.request.now) r []) c.in-None.ensures refl,
      checks_no (manner_of c.args.manner) _ _,
    )
