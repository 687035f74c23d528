use Rattle.std.proofs.Common.{◌≡◌, ◌∙◌, ℕ, List, Option, Some, subst, sym}
use Rattle.bench_core.specs.Stands.{bench_of}
use Rattle.explain_why.specs.Defined.{IsDefinitionIn, IsItsDefinition}
use Rattle.explain_why.proofs.lines.definition_before.Goals as goal

pub returns-in-Ok-clause-its : goal.returns-in-Ok-clause-its
returns-in-Ok-clause-its g c =
    let settings = c.args.settings in
    let before = c.args.before.now in
    let its = c.in-Ok.definition in
    let first = c.in-Some.name.bytes in
    subst (λ x. IsItsDefinition settings (bench_of c.args.bench.now).present before x its) (sym c.in-Request.is)
    (λ name is.
    let both : ◌≡◌ {A = Option (List ℕ)} (Some first) (Some name) = c.in-Some.ensures ∙ is in
    let same : first ≡ name = cc in
    subst (λ n. IsDefinitionIn settings n before its) same (c.in-Ok.ensures settings c.in_ok-again-in-Some.ensures.took))
