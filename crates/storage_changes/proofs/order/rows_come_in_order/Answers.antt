use Rattle.storage_changes.proofs.OrderedPools.{rows_come_in_order}
use Rattle.storage_changes.proofs.order.rows_come_in_order.Goals as goal

pub returns : goal.returns
returns c = rows_come_in_order
