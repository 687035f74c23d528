use Rattle.std.proofs.Common.{◌≡◌, map, take}
use Rattle.explain_faults.specs.Places.{card_in, IsFieldOver}
use Rattle.explain_faults.proofs.carets.field_over.Given as goal

abbrev pub invariant-loop-i : goal.invariant-loop-i
invariant-loop-i l = record {
  lines : l.field.lines ≡ l.i;
  over : IsFieldOver l.card (map (card_in l.script) (take l.i l.lines)) l.field;
}
