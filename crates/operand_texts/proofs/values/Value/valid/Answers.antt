use Rattle.std.proofs.Common.{refl, arith}
use Rattle.std.proofs.lemmas.Grind.{common_steps}
use Rattle.operand_texts.proofs.values.Value.valid.Goals as goal

pub returns-in-Number : goal.returns-in-Number
returns-in-Number c = (λ _. grind (arith, common_steps), λ _. refl)
