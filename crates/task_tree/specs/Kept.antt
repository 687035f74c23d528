-- Tasks as rows: four for a task, each with its parent and a quarter of its registers. No public clause cites this
-- module.
use Rattle.std.specs.Prelude.{◌≡◌, ◌≢◌, ℕ, ◌+◌, ◌/◌, ◌%◌, ◌<◌, ◌≤◌, Option, Some, None, IsSome, option_map, List, []}
use Rattle.std.specs.Prelude.{◌∷◌, slice_index_or}
use Rattle.vsm_elements.specs.Store.{Store}
use Rattle.row_table.specs.declared.row.Row.{Row}
use Rattle.row_table.specs.declared.table.RowTable.{RowTable}
use Rattle.row_table.specs.Rows.{word}
use Rattle.row_table.specs.RowTable.{row, IsTable}
use Rattle.task_tree.specs.Tasks.{Parents, Words, HasDepths}

-- the row of each task and each quarter
abbrev pub Rows : Type 0
Rows = ℕ → ℕ → Option Row

abbrev pub parents_in : Rows → Parents
parents_in f t = option_map (λ r. word r.words 2) (f t 0)

-- a register of the quarter that a row has
abbrev pub register_in : Option Row → ℕ → ℕ
register_in None k = 0
register_in (Some r) k = slice_index_or r.words (3 + k) 0

abbrev pub words_in : Rows → Words
words_in f t r = register_in (f t (r / 4)) (r % 4)

-- each task that exists has its four rows
pub record AreTasks (f : Rows) : Type 0 where
  pub ranges : (t k : ℕ) → IsSome (f t k) → (1 ≤ t) × (t ≤ 64) × (k < 4)
  pub whole : (t k : ℕ) → k < 4 → IsSome (f t 0) → IsSome (f t k)
  pub first : (t k : ℕ) → IsSome (f t k) → IsSome (f t 0)

-- task 1 exists and is the only one without a parent, parents exist, and there is no cycle
pub record IsTree (f : Rows) : Type 0 where
  pub tasks : AreTasks f
  pub root : parents_in f 1 ≡ Some 0
  pub alone : (t : ℕ) → parents_in f t ≡ Some 0 → t ≡ 1
  pub parents : (t p : ℕ) → parents_in f t ≡ Some p → p ≢ 0 → IsSome (parents_in f p)
  pub depths : ∥ HasDepths (parents_in f) ∥₁

-- the ids of a task's four rows, quarter by quarter
abbrev pub AreQuarters : Rows → ℕ → List ℕ → Type 0
AreQuarters f task ids = (k : ℕ) → k < 4 → option_map (λ r. r.id) (f task k) ≡ Some (slice_index_or ids k 0)

pub record IsKept (s : Store) (q : RowTable) (current : ℕ) (ids : List ℕ) : Type 0 where
  pub table : IsTable s q
  pub tree : IsTree (row s q)
  pub running : IsSome (parents_in (row s q) current)
  pub quarters : AreQuarters (row s q) current ids

pub record AreParked (s : Store) (q : RowTable) : Type 0 where
  pub table : IsTable s q
  pub tasks : AreTasks (row s q)
  pub depths : ∥ HasDepths (parents_in (row s q)) ∥₁

-- the words of a task's row, whose registers are zero
abbrev pub zero_words : ℕ → ℕ → ℕ → List ℕ
zero_words task quarter parent = task ∷ quarter ∷ parent ∷ 0 ∷ 0 ∷ 0 ∷ 0 ∷ []

-- the words of a row
abbrev pub words_at : Rows → ℕ → ℕ → Option (List ℕ)
words_at f a b = option_map (λ r. r.words) (f a b)
