use Rattle.std.proofs.Common.{rules}
use Rattle.vsm_machine.proofs.plans.name_plan.Goals as goal

pub returns-in-Some-Obtained : goal.returns-in-Some-Obtained
returns-in-Some-Obtained c = search rules
