use Rattle.std.proofs.Common.{◌≡◌, ◌≤◌, false, take}
use Rattle.explain_report.specs.Lines.{feeds, is_open}
use Rattle.explain_areas.proofs.line_counts.line_count.Given as goal

abbrev pub invariant-loop-byte : goal.invariant-loop-byte
invariant-loop-byte l =
    record {
      ended : l.lines ≡ feeds (take l.byte-index l.script);
      last : l.unended ≡ is_open false (take l.byte-index l.script);
      few : l.lines ≤ l.byte-index;
    }
