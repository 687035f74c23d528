-- What is left of a walk over subpools, or over the sharers of one. No public clause cites this module.
use Rattle.std.specs.Prelude.{◌≡◌, ℕ, ◌<◌, Bool, true, false, ◌&&◌, ◌==◌, not, nat_lt, if◌then◌else◌}
use Rattle.std.specs.Prelude.{List, [], ◌∷◌, filter}
use Rattle.row_table.specs.declared.row.Row.{Row}
use Rattle.row_table.specs.Rows.{word}
use Rattle.subpool_set.specs.Kept.{owner_in}
use Rattle.subpool_set.specs.Pools.{Sight, sees, tasks}

-- the ids of the subpools among these rows: those of the rows that are their owners' own
abbrev pub pool_ids : List Row → List ℕ
pool_ids [] = []
pool_ids (r ∷ rs) = if owner_in r == word r.words 0 then r.id ∷ pool_ids rs else pool_ids rs

-- the task shares the subpool of this number with this owner
abbrev pub is_sharer : Sight → ℕ → ℕ → ℕ → Bool
is_sharer f number owner task = sees f number owner task && not (task == owner)

-- the sharers of a subpool after this task
abbrev pub sharers_behind : Sight → ℕ → ℕ → ℕ → List ℕ
sharers_behind f number owner behind = filter (λ task. nat_lt behind task && is_sharer f number owner task) tasks

-- the row is that of a task that shares the owner's subpool
abbrev pub is_sharers_row : ℕ → Row → Bool
is_sharers_row owner r = (owner_in r == owner) && not (word r.words 0 == owner)

-- the row is that of a task that shares a subpool of this number
abbrev pub is_sharing_row : ℕ → Row → Bool
is_sharing_row number r = (word r.words 1 == number) && not (owner_in r == word r.words 0)

-- after this task no task shares the subpool
abbrev pub HasNoSharer : Sight → ℕ → ℕ → ℕ → Type 0
HasNoSharer f number owner behind = (t : ℕ) → behind < t → is_sharer f number owner t ≡ false

-- the task is the first one after the other that shares the subpool
pub record IsFirstSharer (f : Sight) (number owner behind task : ℕ) : Type 0 where
  pub later : behind < task
  pub shares : is_sharer f number owner task ≡ true
  pub first : (t : ℕ) → behind < t → t < task → is_sharer f number owner t ≡ false
