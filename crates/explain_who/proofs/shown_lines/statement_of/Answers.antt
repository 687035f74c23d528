use Rattle.std.proofs.Common.{ap, ◌∙◌}
use Rattle.explain_who.specs.LineTexts.{shown_bytes}
use Rattle.explain_who.specs.OneLine.{statement_here}
use Rattle.explain_who.proofs.shown_lines.statement_of.Goals as goal

pub returns : goal.returns
returns c = ap shown_bytes (c.statement_here.ensures ∙ ap statement_here c.from_line.ensures)
