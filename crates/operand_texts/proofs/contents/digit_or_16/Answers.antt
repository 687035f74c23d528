use Rattle.std.proofs.Common.{refl, ap, ◌∙◌, arith}
use Rattle.operand_texts.specs.declared.contents.TheConstants.{DIGITS}
use Rattle.operand_texts.proofs.DigitTable.{digit_in, are_digits, digit_at}
use Rattle.operand_texts.proofs.contents.digit_or_16.Goals as goal

pub returns : goal.returns
unfolding are_digits
returns c = ap (digit_in DIGITS) c.from.ensures ∙ digit_at DIGITS 256 refl c.args.byte (omega arith)
