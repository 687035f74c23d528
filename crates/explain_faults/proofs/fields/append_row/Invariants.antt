use Rattle.std.proofs.Common.{◌≡◌, ◌+◌, ◌++◌}
use Rattle.arrayvec.specs.ArrayVec.{array_vec_len}
use Rattle.explain_faults.specs.Places.{in_row}
use Rattle.explain_faults.proofs.fields.append_row.Given as goal

abbrev pub invariant-loop-i : goal.invariant-loop-i
invariant-loop-i l = record {
  places : l.places.items ≡ l.fn.places.items ++ in_row l.line l.column l.i;
  len : array_vec_len l.places ≡ array_vec_len l.fn.places + l.i;
}
