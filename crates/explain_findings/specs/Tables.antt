-- What a table has, by lines.
use Rattle.std.specs.Prelude.{ℕ, zero, suc, Option, Some, None, List, slice_get}
use Rattle.explain_findings.specs.declared.findings.Finding.{Finding}
use Rattle.explain_findings.specs.declared.findings.Findings.{Findings}
use Rattle.explain_findings.specs.declared.left.Left.{Left}
use Rattle.explain_findings.specs.Left.{Sum, sum_of}
use Rattle.explain_findings.specs.declared.tables.LineTable.{LineTable}
use Rattle.explain_findings.specs.LeftTables.{left_kept}

abbrev pub at_place : List Finding → Option ℕ → Option Finding
at_place found None = None
at_place found (Some zero) = None
at_place found (Some (suc place)) = slice_get found place

abbrev pub on_table : LineTable → ℕ → Option Finding
on_table t line = at_place t.found.items (slice_get t.places.items line)

-- the first of two findings, if there is one
abbrev pub or_else : Option Finding → Option Finding → Option Finding
or_else (Some f) other = Some f
or_else None other = other

abbrev pub found_on : Findings → ℕ → Option Finding
found_on found line = or_else (on_table found.statements line) (on_table found.readings line)

-- what is left of a line, and in all
abbrev pub left_on : Findings → ℕ → Option Left
left_on found line = left_kept found.left line

abbrev pub sum_left : Findings → Sum
sum_left found = sum_of found.left.sum
