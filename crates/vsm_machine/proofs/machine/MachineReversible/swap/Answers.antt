use Rattle.std.proofs.Common.{rules}
use Rattle.vsm_machine.proofs.machine.MachineReversible.swap.Goals as goal

pub returns : goal.returns
returns c = search rules
