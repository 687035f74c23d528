use Rattle.operand_texts.proofs.Spelling.{valid_is_spelled}
use Rattle.operand_texts.proofs.laws.valid_values_are_spelled.Goals as goal

pub returns : goal.returns
returns c = valid_is_spelled
