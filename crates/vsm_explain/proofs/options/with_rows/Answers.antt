use Rattle.std.proofs.Common.{◌≡◌, fold, map, refl, subst}
use Rattle.std.proofs.lemmas.List.{take_all}
use Rattle.clap.specs.Words.{app_of, with_rule}
use Rattle.vsm_explain.specs.Options.{rule_in}
use Rattle.vsm_explain.proofs.CommandLines.{next_row}
use Rattle.vsm_explain.proofs.options.with_rows.Goals as goal

pub loop-row-init : goal.loop-row-init
loop-row-init c = refl

pub loop-row-preserved : goal.loop-row-preserved
loop-row-preserved c =
    next_row (app_of c.args.command) (app_of c.loop-row.command) (app_of c.in_ok-command.command) c.args.rows.now c.loop-row.row-index _ _ c.loop-row-test.true
    c.loop-row.invariant (c.in_ok-command.ensures.shape c.argument_of.ensures.local) c.argument_of.ensures.rule

pub returns : goal.returns
returns c =
    subst (λ rows. app_of c.loop-row.command ≡ fold with_rule (app_of c.args.command) (map rule_in rows))
    (take_all c.loop-row.row-index c.args.rows.now c.loop-row-test.false) c.loop-row.invariant
