use Rattle.std.proofs.Common.{ℕ, flat_map, drop, sym, ap, subst}
use Rattle.run_set.specs.RunSet.{place_index}
use Rattle.subpool_storage.specs.Extents.{extents}
use Rattle.storage_core.specs.Meaning.{state_in_place}
use Rattle.storage_core.specs.Walks.{subpool_before, IsExtentPlace}
use Rattle.storage_map.specs.Lines.{extent_line}
use Rattle.storage_map.proofs.Remaining.{remains_all, remains_less, all_put, drop_next, drop_end, fewer}
use Rattle.storage_map.proofs.areas.put_extents.Goals as goal

pub loop-run-init : goal.loop-run-init
loop-run-init g c =
    let first = c.first_extent_at-cursor in
    let all = extents (state_in_place c.args.storage.now).subpools (subpool_before c.args.storage.now c.args.place) in
    record {
      place = subst (IsExtentPlace c.args.storage.now (subpool_before c.args.storage.now c.args.place) first.result) (sym first.ensures.index) first.ensures;
      text = remains_all (g.W.Write.contents c.args.writer.now) c.args.gathered.now (flat_map extent_line all) (flat_map extent_line (drop (place_index first.result.place) all))
          (ap (λ (i : ℕ). flat_map extent_line (drop i all)) (sym first.ensures.index));
    }

pub next_extent-requires : goal.next_extent-requires
next_extent-requires g c = ((subpool_before c.args.storage.now c.args.place), place_index c.loop-run.cursor.place, c.loop-run.invariant.place)

pub loop-run-smaller : goal.loop-run-smaller
loop-run-smaller g c =
    let all = extents (state_in_place c.args.storage.now).subpools (subpool_before c.args.storage.now c.args.place) in
    let i = place_index c.loop-run.cursor.place in
    fewer all i (place_index c.in-Some.behind.place) c.in-Some.run'
    (sym (c.in-Some.ensures.is (subpool_before c.args.storage.now c.args.place) i c.loop-run.invariant.place))
    (c.in-Some.ensures.next (subpool_before c.args.storage.now c.args.place) i c.loop-run.invariant.place).index

pub loop-run-preserved : goal.loop-run-preserved
loop-run-preserved g c =
    let all = extents (state_in_place c.args.storage.now).subpools (subpool_before c.args.storage.now c.args.place) in
    let i = place_index c.loop-run.cursor.place in
    let j = place_index c.in-Some.behind.place in
    let got = sym (c.in-Some.ensures.is (subpool_before c.args.storage.now c.args.place) i c.loop-run.invariant.place) in
    let next = c.in-Some.ensures.next (subpool_before c.args.storage.now c.args.place) i c.loop-run.invariant.place in
    record {
      place = subst (IsExtentPlace c.args.storage.now (subpool_before c.args.storage.now c.args.place) c.in-Some.behind) (sym next.index) next;
      text = remains_less (g.W.Write.contents c.args.writer.now) (g.W.Write.contents c.loop-run.writer) (g.W.Write.contents c.put_area.new.writer)
          c.args.gathered.now c.loop-run.gathered c.put_area.new.gathered
          (flat_map extent_line all) (flat_map extent_line (drop i all)) (extent_line c.in-Some.run') (flat_map extent_line (drop j all))
          c.loop-run.invariant.text (ap (flat_map extent_line) (drop_next all i j c.in-Some.run' got next.index)) c.put_area.ensures;
    }

pub returns : goal.returns
returns g c =
    let all = extents (state_in_place c.args.storage.now).subpools (subpool_before c.args.storage.now c.args.place) in
    let i = place_index c.loop-run.cursor.place in
    all_put (g.W.Write.contents c.args.writer.now) (g.W.Write.contents c.loop-run.writer) c.args.gathered.now c.loop-run.gathered
    (flat_map extent_line all) (flat_map extent_line (drop i all)) c.loop-run.invariant.text
    (ap (flat_map extent_line) (drop_end all i (sym (c.in_default.ensures.is (subpool_before c.args.storage.now c.args.place) i c.loop-run.invariant.place))))
