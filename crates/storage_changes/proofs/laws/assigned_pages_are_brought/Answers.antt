use Rattle.storage_changes.proofs.AssignedPages.{assigned-brought}
use Rattle.storage_changes.proofs.laws.assigned_pages_are_brought.Goals as goal

pub returns : goal.returns
returns c = assigned-brought
