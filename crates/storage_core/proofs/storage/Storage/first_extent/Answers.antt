use Rattle.std.proofs.Common.{rules}
use Rattle.storage_core.proofs.storage.Storage.first_extent.Goals as goal

pub returns : goal.returns
returns c = search rules
