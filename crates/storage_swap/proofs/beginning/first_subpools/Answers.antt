use Rattle.std.proofs.Common.{rules}
use Rattle.storage_swap.proofs.beginning.first_subpools.Goals as goal

pub returns-clause-subpools : goal.returns-clause-subpools
returns-clause-subpools c = search rules
