-- The cells in use and the extents of a pool, as rows of two tables: a cell under its address, an extent under its
-- number.
use Rattle.std.specs.Prelude.{◌≡◌, ℕ, ◌+◌, ◌/◌, ◌%◌, ◌^◌, ◌<◌, Bool, true, false, ◌||◌, List, [], ◌∷◌}
use Rattle.row_table.specs.Rows.{is_under}
use Rattle.cell_pool.specs.Pool.{Pool, uses}

-- a row is under this number, whose low byte is the row's first word
abbrev pub is_at : ℕ → List ℕ → Bool
is_at n ws = is_under (n % 256) (n / 256) ws

-- one of the rows is under this address
abbrev pub is_noted : ℕ → List (List ℕ) → Bool
is_noted address [] = false
is_noted address (ws ∷ rest) = is_at address ws || is_noted address rest

-- exactly the cells in use are noted
abbrev pub AreNoted : Pool → List (List ℕ) → Type 0
AreNoted p used = (address : ℕ) → address < 2 ^ 32 → is_noted address used ≡ uses p address

-- the rows are numbered from this number on
abbrev pub AreNumbered : ℕ → List (List ℕ) → Type 0
AreNumbered k [] = Unit {0}
AreNumbered k (ws ∷ rest) = (is_at k ws ≡ true) × AreNumbered (k + 1) rest
