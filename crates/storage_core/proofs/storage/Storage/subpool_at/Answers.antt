use Rattle.std.proofs.Common.{rules}
use Rattle.storage_core.proofs.storage.Storage.subpool_at.Goals as goal

pub returns : goal.returns
returns c = search rules
