use Rattle.std.proofs.Common.{◌+◌, drop, Some, None, refl, arith}
use Rattle.run_set.specs.RunSet.{place_index}
use Rattle.subpool_storage.specs.Extents.{free_areas}
use Rattle.vsm_model.specs.Areas.{is_free}
use Rattle.storage_core.specs.Meaning.{state_in_place, state_of}
use Rattle.explain_reasons.proofs.FreeAreas.{areas_are_runs, at_index, first_left, in_range, is_free_storage, own_index, past_last}
use Rattle.explain_reasons.proofs.SearchLemmas.{found_in, found_none, found_past, least_alike, less_left}
use Rattle.explain_reasons.proofs.searches.first_free.Goals as goal

pub loop-free-init : goal.loop-free-init
loop-free-init c =
    let s = c.args.storage.now in
    let w = c.first_free_area-place.result in
    record {
      place = own_index s c.args.subpool w 0 c.first_free_area-place.ensures;
      left = first_left s c.args.subpool w c.args.area.start c.first_free_area-place.ensures;
    }

pub next_free_area-requires : goal.next_free_area-requires
next_free_area-requires c = (c.args.subpool, place_index c.loop-free.place.place, c.loop-free.invariant.place)

pub returns-then-first-end : goal.returns-then-first-end
returns-then-first-end c =
    let s = c.args.storage.now in
    let p = c.args.subpool in
    let areas = free_areas (state_in_place s).subpools p in
    let i = place_index c.loop-free.place.place in
    let r = c.in-Some.free in
    let free = (state_in_place s).subpools.free p in
    least_alike free (is_free (state_of s) p) c.args.area.start c.args.area.len (Some c.max-first.result) (is_free_storage s p)
    (found_in areas (drop i areas) (drop (i + 1) areas) free c.args.area.start r (areas_are_runs s p) c.loop-free.invariant.left
    (at_index areas i (i + 1) r (c.in-Some.ensures.is p i c.loop-free.invariant.place) refl)
    c.max-first.result c.args.area.len c.max-first.ensures c.if-area-free.true c.if-first-end.true)

pub returns-else-first-end : goal.returns-else-first-end
returns-else-first-end c =
    let s = c.args.storage.now in
    let p = c.args.subpool in
    let areas = free_areas (state_in_place s).subpools p in
    let i = place_index c.loop-free.place.place in
    let r = c.in-Some.free in
    let free = (state_in_place s).subpools.free p in
    least_alike free (is_free (state_of s) p) c.args.area.start c.args.area.len None (is_free_storage s p)
    (found_past areas (drop i areas) (drop (i + 1) areas) free c.args.area.start r (areas_are_runs s p) c.loop-free.invariant.left
    (at_index areas i (i + 1) r (c.in-Some.ensures.is p i c.loop-free.invariant.place) refl)
    c.max-first.result c.args.area.len c.max-first.ensures c.if-area-free.true c.if-first-end.false)

pub loop-free-smaller : goal.loop-free-smaller
loop-free-smaller c =
    let s = c.args.storage.now in
    let p = c.args.subpool in
    let areas = free_areas (state_in_place s).subpools p in
    let i = place_index c.loop-free.place.place in
    let within = in_range areas i c.in-Some.free (c.in-Some.ensures.is p i c.loop-free.invariant.place) in
    let next = (c.in-Some.ensures.next p i c.loop-free.invariant.place).index in
    omega (arith, within, next)

pub loop-free-preserved : goal.loop-free-preserved
loop-free-preserved c =
    let s = c.args.storage.now in
    let p = c.args.subpool in
    let areas = free_areas (state_in_place s).subpools p in
    let i = place_index c.loop-free.place.place in
    let w = c.in-Some.after in
    let next = c.in-Some.ensures.next p i c.loop-free.invariant.place in
    record {
      place = own_index s p w (i + 1) next;
      left = less_left areas (drop i areas) (drop (place_index w.place) areas) c.args.area.start c.in-Some.free
          (at_index areas i (place_index w.place) c.in-Some.free (c.in-Some.ensures.is p i c.loop-free.invariant.place) next.index)
          (omega (arith, c.if-area-free.false)) c.loop-free.invariant.left;
    }

pub returns : goal.returns
returns c =
    let s = c.args.storage.now in
    let p = c.args.subpool in
    let areas = free_areas (state_in_place s).subpools p in
    let i = place_index c.loop-free.place.place in
    let free = (state_in_place s).subpools.free p in
    least_alike free (is_free (state_of s) p) c.args.area.start c.args.area.len None (is_free_storage s p)
    (found_none areas (drop i areas) free c.args.area.start c.args.area.len (areas_are_runs s p) c.loop-free.invariant.left
    (past_last areas i (c.in_default.ensures.is p i c.loop-free.invariant.place)))
