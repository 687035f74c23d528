use Rattle.std.proofs.Common.{◌++◌, flat_map, sym, subst}
use Rattle.subpool_storage.specs.Extents.{extents, free_areas}
use Rattle.storage_core.specs.Meaning.{state_in_place, state_of, settings_of}
use Rattle.text_output.specs.Writing.{Puts}
use Rattle.vsm_model.specs.declared.Subpool.{Subpool}
use Rattle.text_output.proofs.Gathering.{puts_both}
use Rattle.storage_map.specs.Lines.{extent_line, free_line, subpool_line}
use Rattle.storage_map.proofs.Shown.{subpool_there}
use Rattle.storage_map.proofs.subpools.put_subpool.Goals as goal

pub returns : goal.returns
returns g c =
    let s = c.args.storage.now in
    let m = state_in_place s in
    let p = c.args.found.subpool in
    let w0 = g.W.Write.contents c.args.writer.now in
    let w1 = g.W.Write.contents c.put_subpool_line.new.writer in
    let w2 = g.W.Write.contents c.put_extents.new.writer in
    let w3 = g.W.Write.contents c.put_free_areas.new.writer in
    let g0 = c.args.gathered.now in
    let g1 = c.put_subpool_line.new.gathered in
    let g2 = c.put_extents.new.gathered in
    let g3 = c.put_free_areas.new.gathered in
    subst (Puts w0 w3 g0 g3)
    (sym (subpool_there (settings_of s) m p s.held.valid s.held.sound c.runs_are_shown.ensures.extents c.runs_are_shown.ensures.areas c.requires.there))
    (puts_both w0 w2 w3 g0 g2 g3 (subpool_line (state_of s) p ++ flat_map extent_line (extents m.subpools p)) (flat_map free_line (free_areas m.subpools p))
    (puts_both w0 w1 w2 g0 g1 g2 (subpool_line (state_of s) p) (flat_map extent_line (extents m.subpools p)) c.put_subpool_line.ensures
    (subst (λ (q : Subpool). Puts w1 w2 g1 g2 (flat_map extent_line (extents m.subpools q))) c.requires.found.before c.put_extents.ensures))
    (subst (λ (q : Subpool). Puts w2 w3 g2 g3 (flat_map free_line (free_areas m.subpools q))) c.requires.found.before c.put_free_areas.ensures))
