use Rattle.std.proofs.Common.{◌∙◌, sym, ap, arith}
use Rattle.std.proofs.lemmas.List.{take_all}
use Rattle.std.specs.Str.Lines.{strip_carriage_return}
use Rattle.script_steps.proofs.Columns.{columns_long, columns_short}
use Rattle.script_steps.proofs.lines.columns.Goals as goal

pub returns-then-size-le80 : goal.returns-then-size-le80
returns-then-size-le80 c = λ line e k.
    c.strip.ensures ∙ ap strip_carriage_return (k ∙ take_all 80 line (omega arith)) ∙ sym (columns_short line (omega arith))

pub returns-else-size-le80 : goal.returns-else-size-le80
returns-else-size-le80 c = λ line e k. k ∙ sym (columns_long line (omega arith))
