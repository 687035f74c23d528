use Rattle.storage_changes.proofs.Fresh.{taking_fresh_leads}
use Rattle.storage_changes.proofs.storage.taking_fresh_leads.Goals as goal

pub returns : goal.returns
returns c = taking_fresh_leads
