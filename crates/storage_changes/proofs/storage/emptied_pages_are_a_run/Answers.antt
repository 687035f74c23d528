use Rattle.storage_changes.proofs.Idle.{emptied_pages_are_a_run}
use Rattle.storage_changes.proofs.storage.emptied_pages_are_a_run.Goals as goal

pub returns : goal.returns
returns c = emptied_pages_are_a_run
