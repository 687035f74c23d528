use Rattle.std.proofs.Common.{rules}
use Rattle.storage_core.proofs.storage.Storage.swap.Goals as goal

pub returns-clause-swaps : goal.returns-clause-swaps
returns-clause-swaps c = search rules
