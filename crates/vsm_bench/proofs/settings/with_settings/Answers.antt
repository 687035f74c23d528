use Rattle.std.proofs.Common.{refl, rules}
use Rattle.std.proofs.lemmas.Result.{IfOk-weaker}
use Rattle.clap.specs.Words.{app_of}
use Rattle.vsm_bench.specs.Settings.{AreResidences}
use Rattle.vsm_bench.proofs.settings.with_settings.Goals as goal

pub returns : goal.returns
returns c =
    let low = c.with_number-command.ensures (app_of c.args.command) refl in
    let high = c.with_number-command-2.ensures _ low in
    let residence = c.with_residence-command.ensures _ high in
    let history = c.with_number.ensures _ residence in
    let are : AreResidences c.as_slice.result = search rules in
    IfOk-weaker c.with_number.result _ _ (λ r is. (c.as_slice.result, are, is)) history
