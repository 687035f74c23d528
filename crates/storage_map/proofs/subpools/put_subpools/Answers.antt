use Rattle.std.proofs.Common.{ℕ, List, flat_map, sym, ap}
use Rattle.vsm_model.specs.declared.Subpool.{Subpool}
use Rattle.subpool_storage.specs.Order.{subpools_in_order}
use Rattle.storage_core.specs.Meaning.{state_in_place, state_of, settings_of}
use Rattle.storage_core.specs.Walks.{subpools_left}
use Rattle.vsm_model.specs.Map.{subpool_lines}
use Rattle.storage_map.proofs.Remaining.{remains_all, remains_less, all_put, shorter}
use Rattle.storage_map.proofs.subpools.put_subpools.Goals as goal

pub loop-subpool-init : goal.loop-subpool-init
loop-subpool-init g c =
    let s = c.args.storage.now in
    let m = (state_in_place s).subpools in
    let lines : Subpool → List ℕ = λ p. subpool_lines (settings_of s) (state_of s) p.number p.owner in
    record {
      place = c.first_subpool_place-place.ensures.place s;
      text = remains_all (g.W.Write.contents c.args.writer.now) c.args.gathered.now (flat_map lines (subpools_in_order m)) (flat_map lines (subpools_left s c.first_subpool_place-place.result))
          (ap (flat_map lines) (sym (c.first_subpool_place-place.ensures.all s)));
    }

pub loop-subpool-smaller : goal.loop-subpool-smaller
loop-subpool-smaller g c =
    let s = c.args.storage.now in
    let p = c.in-Some.subpool in
    shorter (subpools_left s c.loop-subpool.place) (subpools_left s c.in-Some.behind) p c.in-Some.ensures.next

pub loop-subpool-preserved : goal.loop-subpool-preserved
loop-subpool-preserved g c =
    let s = c.args.storage.now in
    let m = (state_in_place s).subpools in
    let p = c.in-Some.subpool in
    let lines : Subpool → List ℕ = λ q. subpool_lines (settings_of s) (state_of s) q.number q.owner in
    record {
      place = c.in-Some.ensures.place;
      text = remains_less (g.W.Write.contents c.args.writer.now) (g.W.Write.contents c.loop-subpool.writer) (g.W.Write.contents c.put_subpool.new.writer)
          c.args.gathered.now c.loop-subpool.gathered c.put_subpool.new.gathered
          (flat_map lines (subpools_in_order m)) (flat_map lines (subpools_left s c.loop-subpool.place)) (lines p) (flat_map lines (subpools_left s c.in-Some.behind))
          c.loop-subpool.invariant.text (ap (flat_map lines) c.in-Some.ensures.next) c.put_subpool.ensures;
    }

pub returns : goal.returns
returns g c =
    let s = c.args.storage.now in
    let m = (state_in_place s).subpools in
    let lines : Subpool → List ℕ = λ q. subpool_lines (settings_of s) (state_of s) q.number q.owner in
    all_put (g.W.Write.contents c.args.writer.now) (g.W.Write.contents c.loop-subpool.writer) c.args.gathered.now c.loop-subpool.gathered
    (flat_map lines (subpools_in_order m)) (flat_map lines (subpools_left s c.loop-subpool.place))
    c.loop-subpool.invariant.text (ap (flat_map lines) c.in_default.ensures.none)
