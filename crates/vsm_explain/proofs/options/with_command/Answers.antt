use Rattle.std.proofs.Common.{◌≡◌, true}
use Rattle.std.proofs.lemmas.Result.{IfOk-weaker}
use Rattle.clap.specs.Words.{shape_of}
use Rattle.vsm_explain.specs.Options.{form_in}
use Rattle.vsm_explain.proofs.CommandLines.{shape_is_plain, third_of}
use Rattle.vsm_explain.proofs.options.with_command.Goals as goal

pub returns : goal.returns
returns c =
    let its = c.in_ok-its.ensures in
    let plain : (shape_of c.in_ok-its.its).is_plain ≡ true = shape_is_plain (form_in c.args.form.now) (shape_of c.in_ok-its.its) its in
    IfOk-weaker c.subcommand.result _ _ (λ r added. (shape_of c.in_ok-its.its, its, added.shape (third_of _ _ _ _ plain))) c.subcommand.ensures
