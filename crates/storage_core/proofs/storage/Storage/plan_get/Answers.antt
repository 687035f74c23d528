use Rattle.storage_core.specs.Meaning.{state_in_place, settings_of}
use Rattle.storage_core.proofs.storage.Storage.plan_get.Goals as goal

pub returns : goal.returns
returns c = let s = c.args.self.now in c.cell_planned.ensures (settings_of s) c.args.names_full (state_in_place s) _ (c.plan_get.ensures)
