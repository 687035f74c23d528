use Rattle.std.proofs.Common.{◌≡◌, ◌∙◌, ap, ap₂, codes, rules}
use Rattle.std.proofs.lemmas.Result.{IfOk-weaker}
use Rattle.clap.specs.Words.{app_of, new_app, new_rule, rule_of, with_rule}
use Rattle.clap.specs.Simple.{app_of_fields}
use Rattle.vsm_bench.specs.Options.{with_version}
use Rattle.vsm_bench.specs.Settings.{with_settings}
use Rattle.vsm_bench.proofs.options.command_line.Goals as goal

pub returns : goal.returns
returns c =
    let options = c.in_ok-with_settings.ensures in
    let file : rule_of c.help-file.result ≡ new_rule (codes "FILE") = search rules in
    let versioned : app_of c.version.result ≡ with_version (new_app (codes "vsm")) =
    ap app_of_fields c.version.ensures ∙ ap with_version c.new-2.ensures.app in
    let base : app_of c.about-command.result ≡ with_version (new_app (codes "vsm")) = ap app_of_fields c.about-command.ensures ∙ versioned in
    let four = options.2 ∙ ap (with_settings options.0) base in
    IfOk-weaker c.arg.result _ _ (λ r h. (options.0, options.1, h.shape (search rules) ∙ ap₂ with_rule four file)) c.arg.ensures
