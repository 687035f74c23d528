use Rattle.operand_texts.proofs.Spelling.{valid_place_is_spelled}
use Rattle.operand_texts.proofs.laws.valid_places_are_spelled.Goals as goal

pub returns : goal.returns
returns c = valid_place_is_spelled
