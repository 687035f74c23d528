-- What passing over the rows of one number does to rows. No public clause cites this module.
use Rattle.std.specs.Prelude.{◌≡◌, ℕ, ◌&&◌, ◌==◌, nat_lt, if◌then◌else◌, Option, Some, None, slice_set}
use Rattle.row_table.specs.declared.row.Row.{Row}
use Rattle.subpool_set.specs.Kept.{Rows, owner_in}

-- `to` is the owner if `giver` was
abbrev pub renamed : ℕ → ℕ → Option Row → Option Row
renamed giver to None = None
renamed giver to (Some r) =
    if owner_in r == giver then Some (record { id = r.id; words = slice_set r.words 2 to }) else Some r

-- the row, if it names this owner
abbrev pub only_of : ℕ → Option Row → Option Row
only_of owner None = None
only_of owner (Some r) = if owner_in r == owner then Some r else None

-- the row, if it names another owner
abbrev pub all_but : ℕ → Option Row → Option Row
all_but owner None = None
all_but owner (Some r) = if owner_in r == owner then None else Some r

-- g is f, changed, at this number for the tasks below k, and h for all others
abbrev pub IsSwept : (Option Row → Option Row) → Rows → Rows → ℕ → ℕ → Rows → Type 0
IsSwept change f h number k g = (a b : ℕ) → g a b ≡ (if (b == number) && nat_lt a k then change (f a b) else h a b)

-- no rows
abbrev pub no_rows : Rows
no_rows a b = None
