use Rattle.operand_texts.proofs.Parts.{upper_name}
use Rattle.operand_texts.proofs.values.is_upper_name.Goals as goal

pub returns-then-is_name : goal.returns-then-is_name
returns-then-is_name c = upper_name c.args.name.now c.is_word.result c.if-is_name.ensures c.is_word.ensures
