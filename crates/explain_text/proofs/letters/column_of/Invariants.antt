use Rattle.std.proofs.Common.{◌≡◌, ◌≤◌}
use Rattle.explain_text.specs.Letters.{column_of}
use Rattle.explain_text.proofs.letters.column_of.Given as goal

abbrev pub invariant-loop-i : goal.invariant-loop-i
invariant-loop-i l = record {
  column : l.column ≡ column_of l.line l.i;
  few : l.column ≤ l.i;
}
