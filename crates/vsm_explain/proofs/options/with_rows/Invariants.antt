use Rattle.std.proofs.Common.{◌≡◌, fold, map, take}
use Rattle.clap.specs.Words.{app_of, with_rule}
use Rattle.vsm_explain.specs.Options.{rule_in}
use Rattle.vsm_explain.proofs.options.with_rows.Given as goal

abbrev pub invariant-loop-row : goal.invariant-loop-row
invariant-loop-row l = app_of l.command ≡ fold with_rule (app_of l.fn.command) (map rule_in (take l.row-index l.rows))
