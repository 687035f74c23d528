use Rattle.vsm_model.specs.Services.{release}
use Rattle.storage_core.specs.Meaning.{state_in_place, settings_of}
use Rattle.storage_core.proofs.Leaving.{none_leaves}
use Rattle.storage_core.proofs.storage.Storage.plan_release.Goals as goal

pub returns : goal.returns
returns c = λ full. let s = c.args.self.now in c.storage_planned.ensures (settings_of s) full (state_in_place s) _ (c.plan_release.ensures.planned full) (none_leaves (state_in_place s) (release c.args.r) c.plan_release.result c.plan_release.ensures.emptied)
