-- The rows after a name in a table in order: all, none, or the next one and those after it.
use Rattle.std.proofs.Common.{◌≡◌, ℕ, ◌^◌, true, false, Option, Some, None, List, [], ◌∷◌, refl, sym, ◌∙◌, ap, true≢false, is_lt, inl, inr}
use Rattle.std.specs.Ordering.{eq_by_cmp}
use Rattle.std.specs.FinMap.Entries.{below_all}
use Rattle.std.proofs.lemmas.Bool.{cond-true, cond-false, and_parts, cases_Bool}
use Rattle.vsm_model.specs.CellPools.{CellPool, CellPools, cell_pool_in, are_ascending}
use Rattle.cell_pool.specs.Pools.{Pool}
use Rattle.cell_pool.specs.Order.{is_before, is_after}
use Rattle.cell_pool.proofs.OrderLemmas.{before_chain, before_itself}
use Rattle.storage_changes.specs.NamedPools.{AreNamed}
use Rattle.storage_changes.specs.PoolTable.{cell_pool_of, cell_pools_in}
use Rattle.storage_changes.specs.TableOrder.{rows_behind, RowsComeInOrder}
use Rattle.service_laws.proofs.Options.{some_none, same_some}
use Rattle.service_laws.proofs.TaskTables.{found_first, found_later}
use Rattle.storage_changes.proofs.PoolRows.{by_name, same_name, own_name, none_below}
use Rattle.storage_changes.proofs.TabledPools.{Has, has_or_not, table_of, has}

abbrev Row : Type 0
Row = List ℕ × CellPool

-- a row stays, or it doesn't
stays : (low : Option (List ℕ)) (row : Row) (rows : CellPools) → is_after low row.0 ≡ true → rows_behind (row ∷ rows) low ≡ row ∷ rows_behind rows low
stays low row rows is = cond-true (is_after low row.0) (row ∷ rows_behind rows low) (rows_behind rows low) is

leaves : (low : Option (List ℕ)) (row : Row) (rows : CellPools) → is_after low row.0 ≡ false → rows_behind (row ∷ rows) low ≡ rows_behind rows low
leaves low row rows is = cond-false (is_after low row.0) (row ∷ rows_behind rows low) (rows_behind rows low) is

-- Rows whose names all follow a name also follow any that this one follows.
further : (low : Option (List ℕ)) (name other : List ℕ) → is_after low name ≡ true → is_before name other ≡ true → is_after low other ≡ true
further None name other h k = refl
further (Some low) name other h k = before_chain low name other h k

all_stay : (low : Option (List ℕ)) (name : List ℕ) → is_after low name ≡ true → (rows : CellPools) → below_all by_name name rows ≡ true → rows_behind rows low ≡ rows
all_stay low name h [] e = refl
all_stay low name h (row ∷ rows) e =
    let parts = and_parts (is_lt (by_name name row.0)) (below_all by_name name rows) e in
    stays low row rows (further low name row.0 h parts.0) ∙ ap (λ (z : CellPools). row ∷ z) (all_stay low name h rows parts.1)

all_above : (name : List ℕ) (rows : CellPools) → below_all by_name name rows ≡ true → rows_behind rows (Some name) ≡ rows
all_above name [] e = refl
all_above name (row ∷ rows) e =
    let parts = and_parts (is_lt (by_name name row.0)) (below_all by_name name rows) e in
    stays (Some name) row rows parts.0 ∙ ap (λ (z : CellPools). row ∷ z) (all_above name rows parts.1)

all_behind : (table : CellPools) → rows_behind table None ≡ table
all_behind [] = refl
all_behind (row ∷ rows) = ap (λ (z : CellPools). row ∷ z) (all_behind rows)

-- what is found after the first row is found
found_rest : (row : Row) (rows : CellPools) → below_all by_name row.0 rows ≡ true → (name : List ℕ) (pool : CellPool) → cell_pool_in rows name ≡ Some pool → cell_pool_in (row ∷ rows) name ≡ Some pool
found_rest row rows below name pool e =
    elim (cases_Bool (eq_by_cmp by_name name row.0)) [
      | inl is ↦ absurd (some_none pool (sym e ∙ none_below name rows (ap (λ n. below_all by_name n rows) (same_name name row.0 is) ∙ below)))
      | inr apart ↦ found_later row rows name apart ∙ e
    ]

-- what is found follows what is below all
found_behind : (low : List ℕ) (rows : CellPools) → below_all by_name low rows ≡ true → (name : List ℕ) (pool : CellPool) → cell_pool_in rows name ≡ Some pool → is_before low name ≡ true
found_behind low [] below name pool e = absurd (some_none pool (sym e))
found_behind low (row ∷ rows) below name pool e =
    let parts = and_parts (is_lt (by_name low row.0)) (below_all by_name low rows) below in
    elim (cases_Bool (eq_by_cmp by_name name row.0)) [
      | inl is ↦ ap (is_before low) (same_name name row.0 is) ∙ parts.0
      | inr apart ↦ found_behind low rows parts.1 name pool (sym (found_later row rows name apart) ∙ e)
    ]

not_back : (a b : List ℕ) → is_before a b ≡ true → is_before b a ≡ false
not_back a b h =
    elim (cases_Bool (is_before b a)) [
      | inl back ↦ absurd (true≢false (sym (before_chain a b a h back) ∙ before_itself a))
      | inr is ↦ is
    ]

-- if no name that is found follows, no row does
none_behind : (low : Option (List ℕ)) (table : CellPools) → are_ascending table ≡ true → ((name : List ℕ) (pool : CellPool) → cell_pool_in table name ≡ Some pool → is_after low name ≡ false) → rows_behind table low ≡ []
none_behind low [] ascends none = refl
none_behind low (row ∷ rows) ascends none =
    let parts = and_parts (below_all by_name row.0 rows) (are_ascending rows) ascends in
    leaves low row rows (none row.0 row.1 (found_first row rows row.0 (own_name row.0)))
    ∙ none_behind low rows parts.1 (λ name pool e. none name pool (found_rest row rows parts.0 name pool e))

-- The first name that follows is before those that follow it.
module _ (low : Option (List ℕ)) (next : List ℕ) (pool : CellPool) (behind : is_after low next ≡ true) where
  first_behind : (table : CellPools) → are_ascending table ≡ true → cell_pool_in table next ≡ Some pool
      → ((name : List ℕ) (other : CellPool) → cell_pool_in table name ≡ Some other → is_after low name ≡ true → is_before name next ≡ false)
      → rows_behind table low ≡ (next, pool) ∷ rows_behind table (Some next)
  first_behind [] ascends e first = absurd (some_none pool (sym e))
  first_behind (row ∷ rows) ascends e first =
      let parts = and_parts (below_all by_name row.0 rows) (are_ascending rows) ascends in
      elim (cases_Bool (eq_by_cmp by_name next row.0)) [
        | inl is ↦ here parts.0 (same_name next row.0 is) (same_some row.1 pool (sym (found_first row rows next is) ∙ e))
        | inr apart ↦
            let found : cell_pool_in rows next ≡ Some pool = sym (found_later row rows next apart) ∙ e in
            there parts.0 found (first_behind rows parts.1 found (λ name other k. first name other (found_rest row rows parts.0 name other k)))
      ] where
        here : below_all by_name row.0 rows ≡ true → next ≡ row.0 → row.1 ≡ pool → rows_behind (row ∷ rows) low ≡ (next, pool) ∷ rows_behind (row ∷ rows) (Some next)
        here below is same =
            let above : below_all by_name next rows ≡ true = ap (λ n. below_all by_name n rows) is ∙ below in
            stays low row rows (ap (is_after low) (sym is) ∙ behind)
            ∙ ap (λ (z : CellPools). row ∷ z) (all_stay low next behind rows above)
            ∙ ap (λ (n : List ℕ). (n, row.1) ∷ rows) (sym is)
            ∙ ap (λ (p : CellPool). (next, p) ∷ rows) same
            ∙ ap (λ (z : CellPools). (next, pool) ∷ z) (sym (leaves (Some next) row rows (ap (is_before next) (sym is) ∙ before_itself next) ∙ all_above next rows above))

        there : below_all by_name row.0 rows ≡ true → cell_pool_in rows next ≡ Some pool → rows_behind rows low ≡ (next, pool) ∷ rows_behind rows (Some next) → rows_behind (row ∷ rows) low ≡ (next, pool) ∷ rows_behind (row ∷ rows) (Some next)
        there below found rest =
            let before : is_before row.0 next ≡ true = found_behind row.0 rows below next pool found in
            leaves low row rows (not_behind before) ∙ rest
            ∙ ap (λ (z : CellPools). (next, pool) ∷ z) (sym (leaves (Some next) row rows (not_back row.0 next before)))
          where
            not_behind : is_before row.0 next ≡ true → is_after low row.0 ≡ false
            not_behind before =
                elim (cases_Bool (is_after low row.0)) [
                  | inl is ↦ absurd (true≢false (sym before ∙ first row.0 row.1 (found_first row rows row.0 (own_name row.0)) is))
                  | inr is ↦ is
                ]

-- A cell pool that is found is one of an id.
found_one : (pools : ℕ → Option Pool) → AreNamed pools → (name : List ℕ) (pool : CellPool) → cell_pool_in (cell_pools_in pools) name ≡ Some pool → Has pools (2 ^ 32) name
found_one pools named name pool e =
    elim (has_or_not pools (2 ^ 32) name) [
      | inl h ↦ h
      | inr none ↦ absurd (some_none pool (sym e ∙ (table_of pools named).none name none))
    ]

pub rows_come_in_order : RowsComeInOrder
rows_come_in_order pools low named =
    let table = table_of pools named in
    record {
      all = all_behind (cell_pools_in pools);
      none = λ none. none_behind low (cell_pools_in pools) table.ascends (λ name pool e.
          let h = found_one pools named name pool e in
          ap (is_after low) (sym h.named) ∙ none h.id h.p h.there);
      next = λ id p there is. first_behind low p.name (cell_pool_of p) is.behind (cell_pools_in pools) table.ascends (table.found p.name (has pools named id p there)) (λ name other e is_also.
          let h = found_one pools named name other e in
          ap (λ n. is_before n p.name) (sym h.named) ∙ is.first h.id h.p h.there (ap (is_after low) h.named ∙ is_also));
    }
