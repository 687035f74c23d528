use Rattle.std.proofs.Common.{rules}
use Rattle.storage_core.proofs.plans.Plan.reply.Goals as goal

pub returns-in-Build : goal.returns-in-Build
returns-in-Build c = search rules
