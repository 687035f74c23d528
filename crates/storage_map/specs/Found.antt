-- A subpool that a walk over a storage found.
-- Assembler Services Guide, "Virtual storage management", "Subpool handling".
use Rattle.std.specs.Prelude.{◌≡◌}
use Rattle.storage_core.specs.declared.storage.Storage.{Storage}
use Rattle.storage_core.specs.Walks.{IsBehindSubpool, subpool_before}
use Rattle.storage_map.specs.declared.subpools.FoundSubpool.{FoundSubpool}

-- The place is after a subpool that was read, and this is that subpool.
pub record IsFound (s : Storage) (found : FoundSubpool) : Type 0 where
  pub behind : IsBehindSubpool s found.behind
  pub before : subpool_before s found.behind ≡ found.subpool
