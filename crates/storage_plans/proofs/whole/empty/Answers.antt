use Rattle.std.proofs.Common.{refl}
use Rattle.storage_plans.proofs.whole.empty.Goals as goal

pub returns-clause-emptied : goal.returns-clause-emptied
returns-clause-emptied c = refl
