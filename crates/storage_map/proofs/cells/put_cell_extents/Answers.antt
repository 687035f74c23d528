use Rattle.std.proofs.Common.{ℕ, ◌+◌, ◌*◌, ◌^◌, ◌<◌, All, List, flat_map, refl, ap, subst}
use Rattle.std.proofs.lemmas.List.Elements.{All-head, All-tail}
use Rattle.cell_pool.specs.declared.settings.Extent.{Extent}
use Rattle.cell_pool.specs.Pools.{rounded}
use Rattle.storage_map.specs.Cells.{extents_left}
use Rattle.storage_map.specs.Lines.{cell_extent_line}
use Rattle.storage_map.proofs.Remaining.{remains_all, remains_less, all_put, shorter}
use Rattle.storage_map.proofs.cells.put_cell_extents.Goals as goal

-- the extent ends low enough for its length to have eight digits
abbrev Ends : ℕ → Extent → Type 0
Ends size x = x.start + rounded (x.count * size) < 2 ^ 31

pub loop-extent-init : goal.loop-extent-init
loop-extent-init g c =
    let all = flat_map (cell_extent_line c.args.size) (extents_left c.args.storage.now c.args.first) in
    record {
      place = c.requires.place;
      ends = c.requires.end;
      text = remains_all (g.W.Write.contents c.args.writer.now) c.args.gathered.now all all refl;
    }

pub put_cell_extent-requires : goal.put_cell_extent-requires
put_cell_extent-requires g c =
    let s = c.args.storage.now in
    let P : List Extent → Type 0 = All (Ends c.args.size) in
    All-head (Ends c.args.size) c.in-Some.extent (extents_left s c.in-Some.behind) (subst P c.in-Some.ensures.next c.loop-extent.invariant.ends)

pub loop-extent-smaller : goal.loop-extent-smaller
loop-extent-smaller g c =
    let s = c.args.storage.now in
    shorter (extents_left s c.loop-extent.place) (extents_left s c.in-Some.behind) c.in-Some.extent c.in-Some.ensures.next

pub loop-extent-preserved : goal.loop-extent-preserved
loop-extent-preserved g c =
    let s = c.args.storage.now in
    let lines = flat_map (cell_extent_line c.args.size) in
    let P : List Extent → Type 0 = All (Ends c.args.size) in
    record {
      place = c.in-Some.ensures.place;
      ends = All-tail (Ends c.args.size) c.in-Some.extent (extents_left s c.in-Some.behind) (subst P c.in-Some.ensures.next c.loop-extent.invariant.ends);
      text = remains_less (g.W.Write.contents c.args.writer.now) (g.W.Write.contents c.loop-extent.writer) (g.W.Write.contents c.put_cell_extent.new.writer)
          c.args.gathered.now c.loop-extent.gathered c.put_cell_extent.new.gathered
          (lines (extents_left s c.args.first)) (lines (extents_left s c.loop-extent.place)) (cell_extent_line c.args.size c.in-Some.extent) (lines (extents_left s c.in-Some.behind))
          c.loop-extent.invariant.text (ap lines c.in-Some.ensures.next) c.put_cell_extent.ensures;
    }

pub returns : goal.returns
returns g c =
    let s = c.args.storage.now in
    let lines = flat_map (cell_extent_line c.args.size) in
    all_put (g.W.Write.contents c.args.writer.now) (g.W.Write.contents c.loop-extent.writer) c.args.gathered.now c.loop-extent.gathered
    (lines (extents_left s c.args.first)) (lines (extents_left s c.loop-extent.place)) c.loop-extent.invariant.text (ap lines c.in_default.ensures.none)
