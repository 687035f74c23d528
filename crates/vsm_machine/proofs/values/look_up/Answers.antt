use Rattle.std.proofs.Common.{rules}
use Rattle.vsm_machine.proofs.values.look_up.Goals as goal

pub returns-in-Register : goal.returns-in-Register
returns-in-Register c = search rules
