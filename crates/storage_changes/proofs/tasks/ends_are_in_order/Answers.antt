use Rattle.storage_changes.proofs.EndOrder.{ends_are_in_order}
use Rattle.storage_changes.proofs.tasks.ends_are_in_order.Goals as goal

pub returns : goal.returns
returns c = ends_are_in_order
