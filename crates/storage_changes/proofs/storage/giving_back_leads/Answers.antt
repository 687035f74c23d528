use Rattle.storage_changes.proofs.GivingBack.{giving_back_leads}
use Rattle.storage_changes.proofs.storage.giving_back_leads.Goals as goal

pub returns : goal.returns
returns c = giving_back_leads
