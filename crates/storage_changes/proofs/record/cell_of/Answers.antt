use Rattle.std.proofs.Common.{refl}
use Rattle.storage_changes.proofs.record.cell_of.Goals as goal

pub returns : goal.returns
returns c = refl
