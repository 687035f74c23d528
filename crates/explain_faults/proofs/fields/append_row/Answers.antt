use Rattle.std.proofs.Common.{arith}
use Rattle.explain_faults.proofs.FieldPlaces.{row_push}
use Rattle.explain_faults.proofs.fields.append_row.Goals as goal

pub loop-i-preserved : goal.loop-i-preserved
loop-i-preserved c = record {
  places = row_push c.args.line c.args.column c.loop-i.i _ _ _ c.loop-i.invariant.places c.push.ensures.items;
  len = omega (arith, c.push.ensures.len, c.loop-i.invariant.len);
}
