-- The ids of a task's four rows.
use Rattle.std.proofs.Common.{◌≡◌, ◌≢◌, ℕ, zero, suc, ◌<◌, List, [], ◌∷◌, get_or, Option, Some, None, IsSome, is_some, inl, refl, sym, ap, ◌∙◌, arith}
use Rattle.std.proofs.lemmas.Bool.{cond-false}
use Rattle.std.specs.Prelude.{option_map, if◌then◌else◌}
use Rattle.vsm_elements.specs.Store.{Store}
use Rattle.row_table.specs.declared.row.Row.{Row}
use Rattle.row_table.specs.declared.table.RowTable.{RowTable}
use Rattle.row_table.specs.Rows.{word, is_under}
use Rattle.row_table.specs.RowTable.{row, words_of, IsTable, IsRow}
use Rattle.row_table.proofs.RowLemmas.{not_both, differs}
use Rattle.row_table.proofs.SetLemmas.{row_of_id}
use Rattle.row_table.proofs.TableLemmas.{tables_stand}
use Rattle.task_tree.specs.Kept.{Rows, parents_in, AreQuarters}

abbrev pub id_in : Option Row → Option ℕ
id_in x = option_map (λ (r : Row). r.id) x

pub four_quarters : (f : Rows) (task a b c d : ℕ) → id_in (f task 0) ≡ Some a → id_in (f task 1) ≡ Some b → id_in (f task 2) ≡ Some c → id_in (f task 3) ≡ Some d
    → AreQuarters f task (a ∷ b ∷ c ∷ d ∷ [])
four_quarters f task a b c d p q r s k l = go k l where
  go : (k : ℕ) → k < 4 → id_in (f task k) ≡ Some (get_or (a ∷ b ∷ c ∷ d ∷ []) k 0)
  go zero h = p
  go (suc zero) h = q
  go (suc (suc zero)) h = r
  go (suc (suc (suc zero))) h = s
  go (suc (suc (suc (suc k)))) h = absurd (omega arith)

-- a task whose rows are unchanged has its ids
pub same_quarters : (f g : Rows) (task : ℕ) (ids : List ℕ) → ((k : ℕ) → g task k ≡ f task k) → AreQuarters f task ids → AreQuarters g task ids
same_quarters f g task ids same h k l = ap id_in (same k) ∙ h k l

-- a task that exists isn't one that doesn't
pub other_task : (f : Rows) (t n : ℕ) → IsSome (parents_in f t) → parents_in f n ≡ None → t ≢ n
other_task f t n there none e = not_both (is_some (parents_in f t)) there (ap is_some (ap (parents_in f) e ∙ none))

-- writing a row leaves the rows of other tasks
pub others_stay : (f g : Rows) (id task : ℕ) (words : List ℕ) → word words 0 ≡ task
    → ((a b : ℕ) → g a b ≡ (if is_under a b words then Some (record { id = id; words = words }) else f a b))
    → (a b : ℕ) → a ≢ task → g a b ≡ f a b
others_stay f g id task words first rows a b ne =
    rows a b ∙ cond-false (is_under a b words) (Some (record { id = id; words = words })) (f a b) (differs words a b (inl (λ e. ne (sym e ∙ first))))

pub no_quarter : (x : Option Row) → id_in x ≡ None → x ≡ None
no_quarter None e = refl
no_quarter (Some r) e = absurd (no e) where
  no : Some r.id ≡ None → ⊥
  no e = cc

-- the row of a quarter by its id
module _ (s : Store) (q : RowTable) (task k id : ℕ) (table : IsTable s q) (named : id_in (row s q task k) ≡ Some id) where
  found : (r : Row) × ((row s q task k ≡ Some r) × (r.id ≡ id))
  found = row_of_id (row s q task k) id named

  stands : (word found.0.words 0 ≡ task) × (word found.0.words 1 ≡ k) × (words_of s found.0.id ≡ found.0.words)
  stands = (tables_stand s q table).1 task k found.0 found.1.0

  words_are : words_of s id ≡ found.0.words
  words_are = ap (words_of s) (sym found.1.1) ∙ stands.2

  pub quarter_is : row s q task k ≡ Some (record { id = id; words = words_of s id })
  quarter_is =
      found.1.0 ∙ ap (λ (i : ℕ). Some (record { id = i; words = found.0.words })) found.1.1
      ∙ ap (λ (w : List ℕ). Some (record { id = id; words = w })) (sym words_are)

  pub quarter_stands : IsRow s q id
  quarter_stands =
      ap (λ (w : List ℕ). row s q (word w 0) (word w 1)) words_are
      ∙ ap (λ (z : ℕ). row s q z (word found.0.words 1)) stands.0 ∙ ap (row s q task) stands.1 ∙ quarter_is
