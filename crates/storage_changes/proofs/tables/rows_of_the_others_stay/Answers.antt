use Rattle.storage_changes.proofs.TableChanges.{rows_of_the_others_stay}
use Rattle.storage_changes.proofs.tables.rows_of_the_others_stay.Goals as goal

pub returns : goal.returns
returns c = rows_of_the_others_stay
