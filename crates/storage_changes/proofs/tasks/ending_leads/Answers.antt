use Rattle.storage_changes.proofs.EndLeads.{ending_leads}
use Rattle.storage_changes.proofs.tasks.ending_leads.Goals as goal

pub returns : goal.returns
returns c = ending_leads c.pools_are_found.ensures c.rows_of_the_others_stay.ensures
