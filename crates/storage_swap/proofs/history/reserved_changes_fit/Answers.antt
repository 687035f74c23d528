use Rattle.storage_swap.specs.ReservedFit.{reserved-changes-fit}
use Rattle.storage_swap.proofs.history.reserved_changes_fit.Goals as goal

pub returns : goal.returns
returns c = reserved-changes-fit
