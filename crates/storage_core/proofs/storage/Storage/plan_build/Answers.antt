use Rattle.storage_core.specs.Meaning.{state_in_place, settings_of}
use Rattle.storage_core.proofs.storage.Storage.plan_build.Goals as goal

pub returns : goal.returns
returns c = λ full. let s = c.args.self.now in c.build_planned.ensures (settings_of s) full (state_in_place s) _ (c.plan_build.ensures full)
