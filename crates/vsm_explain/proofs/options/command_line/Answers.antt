use Rattle.std.proofs.Common.{ap, subst, ◌∙◌}
use Rattle.std.proofs.lemmas.Result.{IfOk-weaker}
use Rattle.clap.specs.Words.{App, app_of, with_subcommand}
use Rattle.vsm_explain.specs.Options.{IsShapeOf}
use Rattle.vsm_explain.proofs.CommandLines.{line_is}
use Rattle.vsm_explain.proofs.options.command_line.Goals as goal

pub returns : goal.returns
returns c =
    let z = c.in_ok-first.ensures in
    let a = c.in_ok-second.ensures in
    let b = c.in_ok-third.ensures in
    let d = c.in_ok-fourth.ensures in
    IfOk-weaker c.with_command-5.result _ _
    (λ r last.
    line_is (app_of r) z.0 a.0 b.0 d.0 last.0 (subst (λ f. IsShapeOf f z.0) c.check_form.ensures z.1) (subst (λ f. IsShapeOf f a.0) c.list_form.ensures a.1)
    (subst (λ f. IsShapeOf f b.0) c.why_form.ensures b.1) (subst (λ f. IsShapeOf f d.0) c.report_form.ensures d.1) (subst (λ f. IsShapeOf f last.0) c.who_form.ensures last.1)
    (last.2 ∙ ap (λ (x : App). with_subcommand x last.0) (d.2 ∙ ap (λ (x : App). with_subcommand x d.0) (b.2 ∙ ap (λ (x : App). with_subcommand x b.0)
    (a.2 ∙ ap (λ (x : App). with_subcommand x a.0) (z.2 ∙ ap (λ (x : App). with_subcommand x z.0) c.in_ok-bare.ensures))))))
    c.with_command-5.ensures
