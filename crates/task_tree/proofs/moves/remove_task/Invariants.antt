use Rattle.std.proofs.Common.{◌≡◌, ◌+◌, ℕ, ◌==◌, ◌&&◌, nat_lt, None}
use Rattle.std.specs.Prelude.{if◌then◌else◌}
use Rattle.vsm_elements.specs.Ownership.{Leaves}
use Rattle.row_table.specs.RowTable.{row, owned, IsTable}
use Rattle.task_tree.proofs.moves.remove_task.Given as goal

abbrev pub invariant-loop-quarter : goal.invariant-loop-quarter
invariant-loop-quarter l = record {
  table : IsTable l.elements l.rows;
  left : (a b : ℕ) → row l.elements l.rows a b ≡ (if (a == l.task) && nat_lt b l.quarter then None else row l.initial.elements l.initial.rows a b);
  owned : Leaves l.initial.elements l.elements (owned l.initial.elements l.initial.rows) (owned l.elements l.rows);
  spares : l.elements.spare ≡ l.initial.elements.spare + l.quarter;
}
