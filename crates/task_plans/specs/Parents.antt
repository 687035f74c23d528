-- The parents of all tasks in an array.
use Rattle.std.specs.Prelude.{◌≡◌, ℕ, ◌==◌, nat_lt, if◌then◌else◌, List, Option, Some, None}
use Rattle.std.specs.Prelude.{slice_index_or}

-- 255 means no task
abbrev pub present : ℕ → Option ℕ
present v = if v == 255 then None else Some v

-- the parent of a task, as it was read
abbrev pub read_in : List ℕ → ℕ → Option ℕ
read_in xs t = if nat_lt t 65 then present (slice_index_or xs t 255) else None

-- these are the parents of all tasks
abbrev pub AreParents : List ℕ → (ℕ → Option ℕ) → Type 0
AreParents xs parents = (t : ℕ) → parents t ≡ read_in xs t
