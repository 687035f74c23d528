-- The last row of a table has the highest number.
use Rattle.std.proofs.Common.{◌≡◌, ℕ, ◌+◌, ◌-◌, ◌≤◌, List, [], ◌∷◌, ◌++◌, Option, Some, None, IsSome, inl, refl, sym, ap, ◌∙◌, subst, arith}
use Rattle.std.specs.Prelude.{option_map}
use Rattle.vsm_elements.specs.Store.{Store}
use Rattle.row_table.specs.declared.row.Row.{Row}
use Rattle.row_table.specs.declared.table.RowTable.{RowTable}
use Rattle.row_table.specs.Rows.{word, last_row, AreInOrder, row_among}
use Rattle.row_table.specs.RowTable.{row, rows}
use Rattle.row_table.proofs.NextLemmas.{says_before}
use Rattle.row_table.proofs.TableLemmas.{rows_ascend}
use Rattle.subpool_set.specs.Pools.{IsNumbersEnd}
use Rattle.subpool_set.specs.Kept.{IsKept, owner_in, sight_in}
use Rattle.subpool_set.proofs.SharerLemmas.{right_of}
use Rattle.subpool_set.proofs.WalkLemmas.{row_middle}

last_split : (rs : List Row) (r : Row) → last_row rs ≡ Some r → (front : List Row) × (rs ≡ front ++ r ∷ [])
last_split [] r e = absurd cc
last_split (x ∷ []) r e = let same : x ≡ r = cc in ([], ap (λ (z : Row). z ∷ []) same)
last_split (x ∷ y ∷ ys) r e = let (front, is) = last_split (y ∷ ys) r e in (x ∷ front, ap (λ (z : List Row). x ∷ z) is)

no_last : (rs : List Row) → last_row rs ≡ None → rs ≡ []
no_last [] e = refl
no_last (x ∷ xs) e = absurd cc

module _ (s : Store) (q : RowTable) (kept : IsKept s q) where
  among : (t n : ℕ) → row s q t n ≡ row_among t n (rows s q)
  among t n = (rows_ascend s q kept.table).1 t n

  pub no_numbers : last_row (rows s q) ≡ None → IsNumbersEnd (sight_in (row s q)) 0
  no_numbers none = record {
    above = λ t n _. ap (λ (o : Option Row). option_map owner_in o) (among t n ∙ ap (row_among t n) (no_last (rows s q) none));
    last = λ some. absurd (omega (arith, some));
  }

  module _ (r : Row) (last : last_row (rows s q) ≡ Some r) where
    split : (front : List Row) × (rows s q ≡ front ++ r ∷ [])
    split = last_split (rows s q) r last

    abbrev front : List Row
    front = split.0

    whole : rows s q ≡ front ++ r ∷ []
    whole = split.1

    order : AreInOrder (front ++ r ∷ [])
    order = let P : List Row → Type 0 = AreInOrder in subst P whole (rows_ascend s q kept.table).0

    there : row s q (word r.words 0) (word r.words 1) ≡ Some r
    there = among (word r.words 0) (word r.words 1) ∙ ap (row_among (word r.words 0) (word r.words 1)) whole ∙ row_middle front r [] order

    pub last_range : word r.words 1 ≤ 127
    last_range = let P : Option Row → Type 0 = λ o. IsSome o in (kept.sound.ranges (word r.words 0) (word r.words 1) (subst P (sym there) refl)).2

    pub numbers_are_below : (end : ℕ) → end ≡ word r.words 1 + 1 → IsNumbersEnd (sight_in (row s q)) end
    numbers_are_below end is = record {
      above = λ t n high. ap (λ (o : Option Row). option_map owner_in o)
          (among t n ∙ ap (row_among t n) whole
          ∙ right_of t n front r [] order (says_before (word r.words 0) (word r.words 1) t n (inl (omega (arith, high, is)))));
      last = λ some.
          let same : word r.words 1 ≡ end - 1 = omega (arith, is) in
          let P : Option Row → Type 0 = λ o. IsSome (option_map owner_in o) in
          let Q : ℕ → Type 0 = λ n. IsSome (sight_in (row s q) (word r.words 0) n) in
          (word r.words 0, subst Q same (subst P (sym there) refl));
    }
