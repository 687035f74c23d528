use Rattle.storage_changes.proofs.TableChanges.{all_rows_change}
use Rattle.storage_changes.proofs.tables.all_rows_change.Goals as goal

pub returns : goal.returns
returns c = all_rows_change
