use Rattle.storage_changes.proofs.MeaningLemmas.{unassigned_pages_are_nobodys}
use Rattle.storage_changes.proofs.laws.unassigned_pages_are_nobodys.Goals as goal

pub returns : goal.returns
returns c = unassigned_pages_are_nobodys
