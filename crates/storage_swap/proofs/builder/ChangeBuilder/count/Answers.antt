use Rattle.std.proofs.Common.{arith}
use Rattle.std.proofs.lemmas.Grind.{common_steps}
use Rattle.storage_swap.proofs.builder.ChangeBuilder.count.Goals as goal

pub returns : goal.returns
returns c = grind (arith, common_steps)
