use Rattle.std.proofs.Common.{◌∙◌, ap}
use Rattle.operand_texts.specs.Words.{is_name}
use Rattle.macro_statements.proofs.AskedBy.{misplaced_by}
use Rattle.macro_statements.proofs.statements.is_misplaced.Goals as goal

pub returns-then-word_len-gt0 : goal.returns-then-word_len-gt0
returns-then-word_len-gt0 c =
    misplaced_by c.args.card.now c.word_len.result c.is_name.result c.word_len.ensures.value c.if-word_len-gt0.true (c.is_name.ensures ∙ ap is_name c.word.ensures)
