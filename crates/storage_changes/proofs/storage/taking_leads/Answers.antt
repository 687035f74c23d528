use Rattle.storage_changes.proofs.Taking.{taking_leads}
use Rattle.storage_changes.proofs.storage.taking_leads.Goals as goal

pub returns : goal.returns
returns c = taking_leads
