use Rattle.operand_texts.proofs.Parts.{pair_spells}
use Rattle.operand_texts.proofs.contents.byte_of.Goals as goal

pub returns-then-second-lt16 : goal.returns-then-second-lt16
returns-then-second-lt16 c =
    pair_spells c.args.high c.args.low c.digit_or_16-first.result c.digit_or_16-second.result c.digit_or_16-first.ensures c.digit_or_16-second.ensures c.if-first-lt16.true c.if-second-lt16.true
