use Rattle.vsm_model.specs.Services.{obtain}
use Rattle.storage_core.specs.Meaning.{state_in_place, settings_of}
use Rattle.storage_core.proofs.Leaving.{none_leaves}
use Rattle.storage_core.proofs.storage.Storage.plan_obtain.Goals as goal

pub returns : goal.returns
returns c = let s = c.args.self.now in c.storage_planned.ensures (settings_of s) c.args.names_full (state_in_place s) _ (c.plan_obtain.ensures.planned) (none_leaves (state_in_place s) (obtain c.args.o) c.plan_obtain.result c.plan_obtain.ensures.emptied)
