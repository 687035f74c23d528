use Rattle.std.proofs.Common.{◌≡◌, length}
use Rattle.std.specs.Prelude.{option_map}
use Rattle.storage_changes.specs.TableOrder.{rows_behind}
use Rattle.storage_core.specs.Meaning.{state_of}
use Rattle.explain_who.specs.Taken.{cell_at}
use Rattle.explain_who.proofs.cells.cell_at.Given as goal

abbrev pub invariant-loop-id : goal.invariant-loop-id
invariant-loop-id l =
    let table = (state_of l.storage).cell_pools in
    cell_at l.address (rows_behind table (option_map (λ n. n.bytes) l.behind)) ≡ cell_at l.address table

abbrev pub decreases-loop-id : goal.decreases-loop-id
decreases-loop-id l = length (rows_behind (state_of l.storage).cell_pools (option_map (λ n. n.bytes) l.behind))
