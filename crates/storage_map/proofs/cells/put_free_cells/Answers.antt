use Rattle.std.proofs.Common.{flat_map, refl, ap}
use Rattle.storage_map.specs.Cells.{cells_left}
use Rattle.storage_map.specs.Lines.{free_cell_line}
use Rattle.storage_map.proofs.Remaining.{remains_all, remains_less, all_put, shorter}
use Rattle.storage_map.proofs.cells.put_free_cells.Goals as goal

pub loop-cell-init : goal.loop-cell-init
loop-cell-init g c =
    let all = flat_map free_cell_line (cells_left c.args.storage.now c.args.first) in
    record {
      place = c.requires;
      text = remains_all (g.W.Write.contents c.args.writer.now) c.args.gathered.now all all refl;
    }

pub loop-cell-smaller : goal.loop-cell-smaller
loop-cell-smaller g c =
    let s = c.args.storage.now in
    shorter (cells_left s c.loop-cell.place) (cells_left s c.in-Some.behind) c.in-Some.cell c.in-Some.ensures.next

pub loop-cell-preserved : goal.loop-cell-preserved
loop-cell-preserved g c =
    let s = c.args.storage.now in
    let lines = flat_map free_cell_line in
    record {
      place = c.in-Some.ensures.place;
      text = remains_less (g.W.Write.contents c.args.writer.now) (g.W.Write.contents c.loop-cell.writer) (g.W.Write.contents c.put_free_cell.new.writer)
          c.args.gathered.now c.loop-cell.gathered c.put_free_cell.new.gathered
          (lines (cells_left s c.args.first)) (lines (cells_left s c.loop-cell.place)) (free_cell_line c.in-Some.cell) (lines (cells_left s c.in-Some.behind))
          c.loop-cell.invariant.text (ap lines c.in-Some.ensures.next) c.put_free_cell.ensures;
    }

pub returns : goal.returns
returns g c =
    let s = c.args.storage.now in
    let lines = flat_map free_cell_line in
    all_put (g.W.Write.contents c.args.writer.now) (g.W.Write.contents c.loop-cell.writer) c.args.gathered.now c.loop-cell.gathered
    (lines (cells_left s c.args.first)) (lines (cells_left s c.loop-cell.place)) c.loop-cell.invariant.text (ap lines c.in_default.ensures.none)
