use Rattle.std.proofs.Common.{ℕ, flat_map, drop, sym, ap, subst}
use Rattle.run_set.specs.RunSet.{place_index}
use Rattle.subpool_storage.specs.Extents.{free_areas}
use Rattle.storage_core.specs.Meaning.{state_in_place}
use Rattle.storage_core.specs.Walks.{subpool_before, IsFreeAreaPlace}
use Rattle.storage_map.specs.Lines.{free_line}
use Rattle.storage_map.proofs.Remaining.{remains_all, remains_less, all_put, drop_next, drop_end, fewer}
use Rattle.storage_map.proofs.areas.put_free_areas.Goals as goal

pub loop-area-init : goal.loop-area-init
loop-area-init g c =
    let first = c.first_free_area_at-cursor in
    let all = free_areas (state_in_place c.args.storage.now).subpools (subpool_before c.args.storage.now c.args.place) in
    record {
      place = subst (IsFreeAreaPlace c.args.storage.now (subpool_before c.args.storage.now c.args.place) first.result) (sym first.ensures.index) first.ensures;
      text = remains_all (g.W.Write.contents c.args.writer.now) c.args.gathered.now (flat_map free_line all) (flat_map free_line (drop (place_index first.result.place) all))
          (ap (λ (i : ℕ). flat_map free_line (drop i all)) (sym first.ensures.index));
    }

pub next_free_area-requires : goal.next_free_area-requires
next_free_area-requires g c = ((subpool_before c.args.storage.now c.args.place), place_index c.loop-area.cursor.place, c.loop-area.invariant.place)

pub loop-area-smaller : goal.loop-area-smaller
loop-area-smaller g c =
    let all = free_areas (state_in_place c.args.storage.now).subpools (subpool_before c.args.storage.now c.args.place) in
    let i = place_index c.loop-area.cursor.place in
    fewer all i (place_index c.in-Some.behind.place) c.in-Some.area
    (sym (c.in-Some.ensures.is (subpool_before c.args.storage.now c.args.place) i c.loop-area.invariant.place))
    (c.in-Some.ensures.next (subpool_before c.args.storage.now c.args.place) i c.loop-area.invariant.place).index

pub loop-area-preserved : goal.loop-area-preserved
loop-area-preserved g c =
    let all = free_areas (state_in_place c.args.storage.now).subpools (subpool_before c.args.storage.now c.args.place) in
    let i = place_index c.loop-area.cursor.place in
    let j = place_index c.in-Some.behind.place in
    let got = sym (c.in-Some.ensures.is (subpool_before c.args.storage.now c.args.place) i c.loop-area.invariant.place) in
    let next = c.in-Some.ensures.next (subpool_before c.args.storage.now c.args.place) i c.loop-area.invariant.place in
    record {
      place = subst (IsFreeAreaPlace c.args.storage.now (subpool_before c.args.storage.now c.args.place) c.in-Some.behind) (sym next.index) next;
      text = remains_less (g.W.Write.contents c.args.writer.now) (g.W.Write.contents c.loop-area.writer) (g.W.Write.contents c.put_area.new.writer)
          c.args.gathered.now c.loop-area.gathered c.put_area.new.gathered
          (flat_map free_line all) (flat_map free_line (drop i all)) (free_line c.in-Some.area) (flat_map free_line (drop j all))
          c.loop-area.invariant.text (ap (flat_map free_line) (drop_next all i j c.in-Some.area got next.index)) c.put_area.ensures;
    }

pub returns : goal.returns
returns g c =
    let all = free_areas (state_in_place c.args.storage.now).subpools (subpool_before c.args.storage.now c.args.place) in
    let i = place_index c.loop-area.cursor.place in
    all_put (g.W.Write.contents c.args.writer.now) (g.W.Write.contents c.loop-area.writer) c.args.gathered.now c.loop-area.gathered
    (flat_map free_line all) (flat_map free_line (drop i all)) c.loop-area.invariant.text
    (ap (flat_map free_line) (drop_end all i (sym (c.in_default.ensures.is (subpool_before c.args.storage.now c.args.place) i c.loop-area.invariant.place))))
