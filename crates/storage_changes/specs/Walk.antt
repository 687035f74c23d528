-- Among the records of a change, which are exchanged with the storage in turn.
use Rattle.std.specs.Prelude.{ℕ, ◌+◌, ◌-◌, Option}
use Rattle.subpool_storage.specs.Subpools.{Subpools}
use Rattle.storage_changes.specs.State.{StorageState}

-- The state, the bytes of the frames that the change has yet to bring and of those that it was given, by their
-- addresses, the subpools that it has parked, and its blank elements.
pub record Walk : Type 0 where
  pub state : StorageState
  pub brought : ℕ → Option ℕ
  pub given : ℕ → Option ℕ
  pub parked : Subpools
  pub spare : ℕ

-- seen from the other side
abbrev pub flip : Walk → Walk
flip w = record w { brought = w.given; given = w.brought }

-- the blank elements once a run joined a set that has this many of the numbers next to it,
abbrev pub spare_joined : ℕ → ℕ → ℕ
spare_joined spare n = spare + n - 1

-- and once it left one
abbrev pub spare_left : ℕ → ℕ → ℕ
spare_left spare n = spare + 1 - n
