use Rattle.storage_changes.proofs.Attaching.{attaching_leads}
use Rattle.storage_changes.proofs.tasks.attaching_leads.Goals as goal

pub returns : goal.returns
returns c = attaching_leads c.pools_are_found.ensures c.all_rows_change.ensures
