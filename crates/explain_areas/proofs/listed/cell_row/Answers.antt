use Rattle.std.proofs.Common.{None, Some}
use Rattle.explain_areas.proofs.listed.cell_row.Goals as goal

pub returns : goal.returns
returns c = λ settings xs carried.
    let cell = c.args.cell.now in
    let asked = c.asker_of-asker.ensures settings xs carried in
    λ i. record {
      line = cell.line;
      bytes = c.from.ensures i;
      address = cell.start;
      subpool = cell.subpool;
      cell_of = Some (c.copied.ensures i);
      extent_of = None;
      asked_by = asked.0 i;
      ended = asked.1 i;
    }
