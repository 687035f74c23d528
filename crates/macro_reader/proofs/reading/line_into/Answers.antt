use Rattle.std.proofs.Common.{◌∙◌}
use Rattle.macro_reader.proofs.OneLine.{line_asks}
use Rattle.macro_reader.proofs.reading.line_into.Goals as goal

pub returns-clause-value : goal.returns-clause-value
returns-clause-value c =
    c.statement_into.ensures.value c.args.card.now c.head_of.ensures.head
    ∙ line_asks c.args.card.now c.head_of.result.1.now c.outside.result c.field_part-n.result.0 c.outside.ensures c.head_of.ensures.rest c.field_part-n.ensures.len
