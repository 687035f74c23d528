use Rattle.std.proofs.Common.{◌≡◌, ◌-◌}
use Rattle.macro_reader.specs.Continuation.{with_lines}
use Rattle.explain_faults.specs.Places.{joined_of}
use Rattle.explain_who.specs.OneLine.{field_here, further_cards}
use Rattle.explain_who.proofs.one_line.field_here.Given as goal

abbrev pub invariant-loop-i : goal.invariant-loop-i
invariant-loop-i l = record {
  lines : l.field.lines ≡ l.i;
  joined : with_lines (joined_of l.field) (further_cards (9 - l.i) l.line) ≡ field_here l.begins;
}
