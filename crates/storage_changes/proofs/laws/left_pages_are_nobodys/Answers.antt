use Rattle.storage_changes.proofs.MeaningLemmas.{left_pages_are_nobodys}
use Rattle.storage_changes.proofs.laws.left_pages_are_nobodys.Goals as goal

pub returns : goal.returns
returns c = left_pages_are_nobodys
