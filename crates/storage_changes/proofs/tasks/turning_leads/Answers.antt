use Rattle.storage_changes.proofs.Turning.{turning_leads}
use Rattle.storage_changes.proofs.tasks.turning_leads.Goals as goal

pub returns : goal.returns
returns c = turning_leads
