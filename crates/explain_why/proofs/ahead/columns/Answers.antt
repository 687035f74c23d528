use Rattle.std.proofs.Common.{◌∙◌, sym, arith}
use Rattle.script_steps.proofs.Columns.{columns_long, columns_short}
use Rattle.explain_why.proofs.ahead.columns.Goals as goal

pub returns-then-line-gt80 : goal.returns-then-line-gt80
returns-then-line-gt80 c = c.front.ensures ∙ sym (columns_long c.args.line.now (omega arith))

pub returns-else-line-gt80 : goal.returns-else-line-gt80
returns-else-line-gt80 c = c.strip.ensures ∙ sym (columns_short c.args.line.now (omega arith))
