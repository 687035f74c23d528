use Rattle.operand_texts.proofs.Parts.{two_digits}
use Rattle.operand_texts.proofs.values.register_number.Goals as goal

pub returns-then-digits-le53-clause-value : goal.returns-then-digits-le53-clause-value
returns-then-digits-le53-clause-value c =
    two_digits c.args.digits.now c.if-digits-eq2.true c.if-digits-eq49.true c.if-digits-ge48-2.true c.if-digits-le53.true
