use Rattle.storage_core.specs.Meaning.{settings_of, state_in_place}
use Rattle.explain_who.proofs.Walked.{holding_is}
use Rattle.explain_who.proofs.holdings.holding_of.Goals as goal

pub returns : goal.returns
returns c =
    let s = c.args.storage.now in
    holding_is (settings_of s) (state_in_place s) c.args.subpool c.extents_of.result c.free_areas_of.result s.held.valid s.held.sound
    c.runs_are_shown.ensures.extents c.runs_are_shown.ensures.areas c.extents_of.ensures c.free_areas_of.ensures
