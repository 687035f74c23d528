use Rattle.std.proofs.Common.{rules}
use Rattle.vsm_machine.proofs.services.build_of.Goals as goal

pub returns-clause-is : goal.returns-clause-is
returns-clause-is c = search rules
