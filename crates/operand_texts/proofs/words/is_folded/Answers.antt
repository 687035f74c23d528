use Rattle.operand_texts.proofs.words.is_folded.Goals as goal

pub returns : goal.returns
returns c = cc
