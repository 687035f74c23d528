use Rattle.operand_texts.proofs.SpelledBytes.{valid_content_is_spelled}
use Rattle.operand_texts.proofs.laws.valid_contents_are_spelled.Goals as goal

pub returns : goal.returns
returns c = valid_content_is_spelled
