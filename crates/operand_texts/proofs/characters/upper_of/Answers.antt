use Rattle.std.proofs.Common.{refl, ap, ◌∙◌, get_or, arith}
use Rattle.operand_texts.specs.declared.characters.TheConstants.{UPPER}
use Rattle.operand_texts.proofs.UpperTable.{are_upper, upper_at}
use Rattle.operand_texts.proofs.characters.upper_of.Goals as goal

pub returns : goal.returns
unfolding are_upper
returns c = ap (λ i. get_or UPPER i 0) c.from.ensures ∙ upper_at UPPER 256 refl c.args.byte (omega arith)
