use Rattle.std.proofs.Common.{refl, arith}
use Rattle.std.proofs.lemmas.Grind.{common_steps}
use Rattle.operand_texts.specs.Field.{outside, operand_len}
use Rattle.operand_texts.proofs.Split.{some_at}
use Rattle.operand_texts.proofs.values.two_of.Goals as goal

-- a third operand is one too many
pub returns-in-Some : goal.returns-in-Some
returns-in-Some c =
    let e = (some_at c.in-Some.field-0.now (operand_len outside c.in-Some.field-0.now) refl).1 in
    grind (arith, common_steps, e)
