use Rattle.run_set.specs.RunSet.{runs, owned, IsRunSet}
use Rattle.run_set.proofs.NewLemmas.{kept_empty}
use Rattle.run_set.proofs.set.RunSet.new.Goals as goal

pub returns-clause-set : goal.returns-clause-set
unfolding IsRunSet
returns-clause-set c = kept_empty _ (assumption) (assumption)

pub returns-clause-empty : goal.returns-clause-empty
unfolding runs
returns-clause-empty c = assumption

pub returns-clause-owned : goal.returns-clause-owned
unfolding owned
returns-clause-owned c = assumption
