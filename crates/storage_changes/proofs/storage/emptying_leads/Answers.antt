use Rattle.storage_changes.proofs.Emptying.{emptying_leads}
use Rattle.storage_changes.proofs.storage.emptying_leads.Goals as goal

pub returns : goal.returns
returns c = emptying_leads c.rows_of_the_others_stay.ensures
