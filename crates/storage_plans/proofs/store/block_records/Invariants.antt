use Rattle.std.proofs.Common.{◌≡◌, map}
use Rattle.std.specs.List.{range_with_len}
use Rattle.storage_swap.specs.Storage.{state_of}
use Rattle.storage_plans.proofs.Stores.{block_record}
use Rattle.storage_plans.proofs.store.block_records.Given as goal

abbrev pub invariant-loop-k : goal.invariant-loop-k
invariant-loop-k l = l.records.items ≡ map (block_record (state_of l.storage) l.address l.bytes) (range_with_len l.first l.k)
