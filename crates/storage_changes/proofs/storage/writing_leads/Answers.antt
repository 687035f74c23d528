use Rattle.storage_changes.proofs.Writing.{writing_leads}
use Rattle.storage_changes.proofs.storage.writing_leads.Goals as goal

pub returns : goal.returns
returns c = writing_leads
