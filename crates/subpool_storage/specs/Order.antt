-- The subpools in the order in which they are shown: by number, and then by owner.
-- Assembler Services Guide, "Virtual storage management", "Subpool handling".
use Rattle.std.specs.Prelude.{ℕ, if◌then◌else◌, Option, Some, None, List}
use Rattle.std.specs.List.{flat_map, filter_map}
use Rattle.subpool_set.specs.Pools.{tasks, numbers}
use Rattle.vsm_model.specs.declared.Subpool.{Subpool}
use Rattle.subpool_storage.specs.Subpools.{Subpools, is_there}

-- the subpool of this number and this owner, if it exists
abbrev pub subpool_at : Subpools → ℕ → ℕ → Option Subpool
subpool_at m number owner =
    let p : Subpool = record { number = number; owner = owner } in if is_there m p then Some p else None

-- all that exist
abbrev pub subpools_in_order : Subpools → List Subpool
subpools_in_order m = flat_map (λ n. filter_map (λ o. subpool_at m n o) tasks) numbers
