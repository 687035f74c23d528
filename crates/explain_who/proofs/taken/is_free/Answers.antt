use Rattle.std.proofs.Common.{◌∙◌}
use Rattle.storage_core.specs.Meaning.{settings_of, state_in_place}
use Rattle.explain_who.proofs.FreeStorage.{free_in_place_is_free}
use Rattle.explain_who.proofs.taken.is_free.Goals as goal

pub returns : goal.returns
returns c =
    let s = c.args.storage.now in
    c.is_free.ensures ∙ free_in_place_is_free (settings_of s) (state_in_place s) c.args.subpool s.held.sound c.args.doubleword
