-- The state of the storage as its queues have it: pages and free storage by subpool, and also the unassigned pages.
-- What it is on the plain machine is in Meaning.antt.
use Rattle.std.specs.Prelude.{ℕ, Bool, Option}
use Rattle.subpool_storage.specs.Subpools.{Subpools}

-- the task that makes the requests, the parent of each task that exists, and the words of its registers
pub record Tasks : Type 0 where
  pub current : ℕ
  pub parents : ℕ → Option ℕ
  pub words : ℕ → ℕ → ℕ

-- A set is its test: equal states are equal at every place.
pub record StorageState : Type 0 where
  pub tasks : Tasks
  pub subpools : Subpools
  -- whether a page of the regions belongs to no subpool
  pub unassigned : ℕ → Bool
  -- the byte at an address, which the addresses of assigned pages have
  pub bytes : ℕ → Option ℕ
