use Rattle.std.proofs.Common.{rules}
use Rattle.storage_core.proofs.storage.Storage.next_subpool.Goals as goal

pub returns-clause-none : goal.returns-clause-none
returns-clause-none c = search rules
