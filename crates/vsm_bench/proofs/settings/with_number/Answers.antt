use Rattle.std.proofs.Common.{◌∙◌, ap₂}
use Rattle.std.proofs.lemmas.Result.{IfOk-weaker}
use Rattle.clap.specs.Words.{with_rule}
use Rattle.vsm_bench.proofs.settings.with_number.Goals as goal

pub returns-in-Ok : goal.returns-in-Ok
returns-in-Ok c = λ app is_app.
    let app_is = rw c.in-Ok.is at is_app in
    let option = c.number_option.ensures in
    IfOk-weaker c.arg.result _ _ (λ r added. added.shape option.local ∙ ap₂ with_rule app_is option.rule) c.arg.ensures
