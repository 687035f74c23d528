use Rattle.std.proofs.Common.{arith}
use Rattle.std.proofs.lemmas.Grind.{common_steps}
use Rattle.vsm_machine.proofs.values.bytes_of.Goals as goal

pub returns-in_ok-look_up-in-Word : goal.returns-in_ok-look_up-in-Word
returns-in_ok-look_up-in-Word c = grind (arith, common_steps)
