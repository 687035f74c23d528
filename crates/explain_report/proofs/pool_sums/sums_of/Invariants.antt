use Rattle.std.proofs.Common.{length}
use Rattle.std.specs.Prelude.{option_map}
use Rattle.storage_changes.specs.TableOrder.{rows_behind}
use Rattle.storage_core.specs.Meaning.{state_of}
use Rattle.explain_report.proofs.PoolSums.{SumsRemain, IsSmall}
use Rattle.explain_report.proofs.pool_sums.sums_of.Given as goal

abbrev pub invariant-loop-id : goal.invariant-loop-id
invariant-loop-id l =
    let table = (state_of l.storage).cell_pools in
    record {
      left : SumsRemain l.sums (rows_behind table (option_map (λ n. n.bytes) l.behind)) table;
      small : IsSmall l.sums;
    }

abbrev pub decreases-loop-id : goal.decreases-loop-id
decreases-loop-id l = length (rows_behind (state_of l.storage).cell_pools (option_map (λ n. n.bytes) l.behind))
