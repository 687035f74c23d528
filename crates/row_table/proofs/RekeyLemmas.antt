-- A row that is removed and inserted under other words.
use Rattle.std.proofs.Common.{◌≡◌, ℕ, List, Some, None, sym}
use Rattle.std.specs.Prelude.{if◌then◌else◌, option_map}
use Rattle.vsm_elements.specs.Store.{Store}
use Rattle.row_table.specs.declared.row.Row.{Row}
use Rattle.row_table.specs.declared.table.RowTable.{RowTable}
use Rattle.row_table.specs.RowTable.{row}
use Rattle.row_table.specs.Rows.{same_key, is_under}

pub rekeyed : (s e f : Store) (h m q : RowTable) (first second : ℕ) (words : List ℕ) (r : Row)
    → row s h first second ≡ Some r
    → ((a b : ℕ) → row e m a b ≡ (if same_key first second a b then None else row s h a b))
    → ((a b : ℕ) → row f q a b ≡ (if is_under a b words then Some (record { id = r.id; words = words }) else row e m a b))
    → (a b : ℕ) → row f q a b ≡ (if is_under a b words
    then option_map (λ r. record { id = r.id; words = words }) (row s h first second)
    else if same_key first second a b then None else row s h a b)
rekeyed s e f h m q first second words r was took put a b = rw (was, sym (took a b)) (put a b)
