use Rattle.std.proofs.Common.{◌≡◌, ◌∷◌, IsSome, Some, drop}
use Rattle.std.specs.Prelude.{IfSome}
use Rattle.storage_changes.specs.TableOrder.{rows_behind}
use Rattle.storage_changes.specs.PoolTable.{cell_pool_of}
use Rattle.storage_map.specs.Cells.{cell_pool}
use Rattle.storage_core.specs.Meaning.{state_of}
use Rattle.storage_map.proofs.positions.cell_pool_at.Given as goal

abbrev pub invariant-loop : goal.invariant-loop
invariant-loop l = record {
  there : IsSome (cell_pool l.storage l.id);
  left : IfSome (cell_pool l.storage l.id) (λ p. drop l.counter (state_of l.storage).cell_pools
      ≡ (p.name, cell_pool_of p) ∷ rows_behind (state_of l.storage).cell_pools (Some p.name));
}
