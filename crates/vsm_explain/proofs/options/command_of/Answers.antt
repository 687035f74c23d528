use Rattle.std.proofs.Common.{◌≡◌, ◌∙◌, ap, fold, map}
use Rattle.std.proofs.lemmas.Result.{IfOk-weaker}
use Rattle.clap.specs.Words.{App, app_of, new_app, with_rule}
use Rattle.clap.specs.Simple.{app_of_fields}
use Rattle.vsm_bench.specs.Settings.{with_settings}
use Rattle.vsm_explain.specs.Options.{rule_in}
use Rattle.vsm_explain.proofs.options.command_of.Goals as goal

pub returns : goal.returns
returns c =
    let form = c.args.form.now in
    let options = c.in_ok-with_settings.ensures in
    let bare : app_of c.after_help-command.result ≡ new_app form.name.now =
    ap app_of_fields c.after_help-command.ensures ∙ ap app_of_fields c.about.ensures ∙ c.new.ensures.app in
    let with_options = options.2 ∙ ap (with_settings options.0) bare in
    IfOk-weaker c.with_rows.result _ _
    (λ r is. (options.0, options.1, ap (λ (a : App). a.top) (is ∙ ap (λ (a : App). fold with_rule a (map rule_in form.rows.now)) with_options)))
    c.with_rows.ensures
