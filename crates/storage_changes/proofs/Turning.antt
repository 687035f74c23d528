-- Another task makes the requests.
use Rattle.std.proofs.Common.{[], refl}
use Rattle.storage_changes.specs.Changes.{change_parking}
use Rattle.storage_changes.specs.State.{StorageState}
use Rattle.storage_changes.proofs.Rows.{leads_to, stands_of, task_is_there, none_fresh, none_brought, fresh_of}
use Rattle.run_set.specs.Runs.{inside}
use Rattle.std.specs.Prelude.{◌/◌}
use Rattle.storage_changes.specs.Changes.{no_pages}
use Rattle.storage_changes.specs.Meaning.{model_of}
use Rattle.storage_changes.specs.Attaching.{turn_records}
use Rattle.storage_changes.specs.TaskLaws.{TurningLeads}

pub turning_leads : TurningLeads
turning_leads settings m task sound there formed =
    let after : StorageState = record m { tasks = record m.tasks { current = task } } in
    leads_to settings m after (change_parking [] (turn_records task) 0) [] (model_of after)
    (record { task = there; current = task_is_there settings m sound }, tt)
    refl none_brought (λ a. fresh_of m no_pages a (inside (a / 4096) no_pages) refl (none_fresh m (a / 4096)))
    (stands_of settings m sound) refl formed
