use Rattle.std.proofs.Common.{◌≡◌, length}
use Rattle.std.specs.Prelude.{option_map}
use Rattle.storage_changes.specs.TableOrder.{rows_behind}
use Rattle.storage_core.specs.Meaning.{state_of}
use Rattle.vsm_model.specs.CellPools.{cell_pool_in}
use Rattle.explain_reasons.proofs.pools.find_pool.Given as goal

abbrev pub invariant-loop-id : goal.invariant-loop-id
invariant-loop-id l =
    let table = (state_of l.storage).cell_pools in
    cell_pool_in (rows_behind table (option_map (λ n. n.bytes) l.after)) l.name ≡ cell_pool_in table l.name

abbrev pub decreases-loop-id : goal.decreases-loop-id
decreases-loop-id l = length (rows_behind (state_of l.storage).cell_pools (option_map (λ n. n.bytes) l.after))
