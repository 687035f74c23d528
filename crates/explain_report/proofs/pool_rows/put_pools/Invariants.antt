use Rattle.std.proofs.Common.{flat_map, length}
use Rattle.std.specs.Prelude.{option_map}
use Rattle.storage_changes.specs.TableOrder.{rows_behind}
use Rattle.storage_core.specs.Meaning.{state_of}
use Rattle.explain_report.proofs.PoolRows.{Remains, row_in}
use Rattle.explain_report.proofs.pool_rows.put_pools.Given as goal

abbrev pub invariant-loop-id : goal.invariant-loop-id
invariant-loop-id g l =
    Remains (g.W.Write.contents l.fn.writer) (g.W.Write.contents l.writer) l.fn.gathered l.gathered
    (flat_map (row_in l.fn.form) (state_of l.storage).cell_pools) (flat_map (row_in l.fn.form) (rows_behind (state_of l.storage).cell_pools (option_map (λ n. n.bytes) l.behind)))

abbrev pub decreases-loop-id : goal.decreases-loop-id
decreases-loop-id g l = length (rows_behind (state_of l.storage).cell_pools (option_map (λ n. n.bytes) l.behind))
