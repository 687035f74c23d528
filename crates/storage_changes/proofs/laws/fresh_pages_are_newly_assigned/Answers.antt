use Rattle.storage_changes.proofs.FreshLemmas.{fresh_is_new}
use Rattle.storage_changes.proofs.laws.fresh_pages_are_newly_assigned.Goals as goal

pub returns : goal.returns
returns c = fresh_is_new
