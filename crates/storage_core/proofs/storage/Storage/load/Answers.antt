use Rattle.std.proofs.Common.{rules}
use Rattle.storage_core.proofs.storage.Storage.load.Goals as goal

pub returns-clause-ok : goal.returns-clause-ok
returns-clause-ok c = search rules
