use Rattle.storage_core.specs.Meaning.{state_in_place, settings_of}
use Rattle.storage_core.proofs.Leaving.{whole_leaves}
use Rattle.storage_core.proofs.storage.Storage.plan_whole.Goals as goal

pub returns : goal.returns
returns c = λ full. let s = c.args.self.now in c.storage_planned.ensures (settings_of s) full (state_in_place s) _ (c.plan_whole.ensures.planned s.settings full s.held.valid (record { stands = s.held.stands; sound = s.held.sound })) (whole_leaves (state_in_place s) c.args.number c.plan_whole.result c.plan_whole.ensures.emptied)
