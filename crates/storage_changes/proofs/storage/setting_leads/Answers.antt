use Rattle.storage_changes.proofs.Rows.{setting_leads}
use Rattle.storage_changes.proofs.storage.setting_leads.Goals as goal

pub returns : goal.returns
returns c = setting_leads
