use Rattle.run_set.specs.RunSet.{owned}
use Rattle.run_set.proofs.set.RunSet.discard.Goals as goal

pub returns-clause-owned : goal.returns-clause-owned
unfolding owned
returns-clause-owned c = c.discard.ensures.owned
