use Rattle.std.proofs.Common.{sym, subst}
use Rattle.vsm_model.specs.Areas.{is_free}
use Rattle.vsm_model.specs.Releasing.{is_not_taken}
use Rattle.vsm_model.specs.Search.{IsLeastAmong}
use Rattle.storage_core.specs.Meaning.{state_of}
use Rattle.explain_reasons.specs.Searches.{is_beside, lesser}
use Rattle.explain_reasons.proofs.SearchLemmas.{free_or_beside, least_alike, least_of_both}
use Rattle.explain_reasons.proofs.searches.first_not_taken.Goals as goal

pub returns : goal.returns
returns c =
    let s = state_of c.args.storage.now in
    let p = c.args.subpool in
    let first = c.args.area.start in
    let len = c.args.area.len in
    let x = c.first_free.result in
    let y = c.first_beside.result in
    subst (IsLeastAmong (is_not_taken s p) first len) (sym c.lesser.ensures)
    (least_alike _ (is_not_taken s p) first len (lesser x y) (free_or_beside s p)
    (least_of_both (is_free s p) (is_beside s p) first len x y c.first_free.ensures c.first_beside.ensures))
