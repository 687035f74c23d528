-- Whether a cell is in use in a table of cell pools.
use Rattle.std.proofs.Common.{◌≡◌, ◌⊎◌, ℕ, Ordering, Less, Equal, Greater, Bool, true, false, not, ◌||◌, ◌==◌, if◌then◌else◌, Option, Some, None, List, [], ◌∷◌, ◌++◌, drop, filter, map, refl, sym, ap, ◌∙◌, inl, inr, true≢false}
use Rattle.std.specs.Prelude.{slice_get, unwrap_or}
use Rattle.std.specs.List.{list_any}
use Rattle.std.specs.Ordering.{eq_by_cmp, is_lt, is_eq}
use Rattle.std.specs.Cmp.{tied_itself}
use Rattle.std.specs.Cmp.Lexicographic.{nat_list_cmp_total}
use Rattle.std.specs.FinMap.{is_sorted}
use Rattle.std.specs.FinMap.Entries.{by_order, below_all}
use Rattle.std.proofs.lemmas.Bool.{and_parts, and_from, or_cases, or_left, or_right, not-true, eqb-true}
use Rattle.vsm_model.specs.Search.{is_in}
use Rattle.vsm_model.specs.CellPools.{CellExtent, CellPool, CellPools, are_ascending, cell_pool_in, cells_of, extent_cells, with_cell_pool, with_extent}
use Rattle.vsm_model.specs.Cells.{is_in_use, no_pool}
use Rattle.service_laws.specs.InUse.{IsInUse}
use Rattle.service_laws.proofs.CellLists.{in_either, in_right}
use Rattle.service_laws.proofs.CellTables.{below_none, order, same_name, same_pool}
use Rattle.service_laws.proofs.Getting.{cells_grown}

abbrev pub used : CellPools → ℕ → Bool
used table cell = list_any (λ row. is_in_use row.1 cell) table

some_none : (p : CellPool) → ◌≡◌ {A = Option CellPool} (Some p) None → ⊥
some_none p e = cc

-- ---- a table, and another one

-- with fewer rows
pub used_less : (keep : List ℕ × CellPool → Bool) (table : CellPools) (cell : ℕ) → used (filter keep table) cell ≡ true → used table cell ≡ true
used_less keep [] cell e = e
used_less keep (row ∷ rows) cell e = go (keep row) e (used_less keep rows cell) where
  go : (b : Bool) → used (if b then row ∷ filter keep rows else filter keep rows) cell ≡ true → (used (filter keep rows) cell ≡ true → used rows cell ≡ true)
      → used (row ∷ rows) cell ≡ true
  go true f rest = elim (or_cases (is_in_use row.1 cell) (used (filter keep rows) cell) f) [
    | inl here ↦ or_left (is_in_use row.1 cell) (used rows cell) here
    | inr later ↦ or_right (is_in_use row.1 cell) (used rows cell) (rest later)
  ]
  go false f rest = or_right (is_in_use row.1 cell) (used rows cell) (rest f)

-- with cell pools that have the same cells in use
pub used_same : (f : CellPool → CellPool) (cell : ℕ) → ((p : CellPool) → is_in_use (f p) cell ≡ is_in_use p cell) → (table : CellPools)
    → used (map (λ row. (row.0, f row.1)) table) cell ≡ used table cell
used_same f cell same [] = refl
used_same f cell same (row ∷ rows) = λ i. same row.1 i || used_same f cell same rows i

-- with one cell pool more, or another one
pub used_put : (table : CellPools) (name : List ℕ) (pool : CellPool) (cell : ℕ) → used (with_cell_pool table name pool) cell ≡ true
    → (is_in_use pool cell ≡ true) ⊎ (used table cell ≡ true)
used_put [] name pool cell e = or_cases (is_in_use pool cell) false e
used_put (row ∷ rows) name pool cell e = go (order name row.0) e (used_put rows name pool cell) where
  go : (o : Ordering) → used (by_order o ((name, pool) ∷ row ∷ rows) ((row.0, pool) ∷ rows) (row ∷ with_cell_pool rows name pool)) cell ≡ true
      → (used (with_cell_pool rows name pool) cell ≡ true → (is_in_use pool cell ≡ true) ⊎ (used rows cell ≡ true))
      → (is_in_use pool cell ≡ true) ⊎ (used (row ∷ rows) cell ≡ true)
  go Less f rest = or_cases (is_in_use pool cell) (used (row ∷ rows) cell) f
  go Equal f rest = elim (or_cases (is_in_use pool cell) (used rows cell) f) [
    | inl here ↦ inl here
    | inr later ↦ inr (or_right (is_in_use row.1 cell) (used rows cell) later)
  ]
  go Greater f rest = elim (or_cases (is_in_use row.1 cell) (used (with_cell_pool rows name pool) cell) f) [
    | inl here ↦ inr (or_left (is_in_use row.1 cell) (used rows cell) here)
    | inr later ↦ elim (rest later) [
      | inl new ↦ inl new
      | inr old ↦ inr (or_right (is_in_use row.1 cell) (used rows cell) old)
    ]
  ]

-- ---- a cell pool by its name

-- A cell of the cell pool of a name is in use in the table.
pub used_named : (table : CellPools) (name : List ℕ) (pool : CellPool) (cell : ℕ) → cell_pool_in table name ≡ Some pool → is_in_use pool cell ≡ true
    → used table cell ≡ true
used_named [] name pool cell found its = absurd (some_none pool (sym found))
used_named (row ∷ rows) name pool cell found its = go (eq_by_cmp order name row.0) found (λ later. used_named rows name pool cell later its) where
  go : (b : Bool) → (if b then Some row.1 else cell_pool_in rows name) ≡ Some pool → (cell_pool_in rows name ≡ Some pool → used rows cell ≡ true)
      → used (row ∷ rows) cell ≡ true
  go true f rest = or_left (is_in_use row.1 cell) (used rows cell) (ap (λ (p : CellPool). is_in_use p cell) (same_pool row.1 pool f) ∙ its)
  go false f rest = or_right (is_in_use row.1 cell) (used rows cell) (rest f)

pub used_in : (table : CellPools) (name : List ℕ) (cell : ℕ) → is_in_use (unwrap_or (cell_pool_in table name) no_pool) cell ≡ true → used table cell ≡ true
used_in table name cell its = go (cell_pool_in table name) refl its where
  go : (o : Option CellPool) → cell_pool_in table name ≡ o → is_in_use (unwrap_or o no_pool) cell ≡ true → used table cell ≡ true
  go None found f = absurd (true≢false (sym f))
  go (Some pool) found f = used_named table name pool cell found f

less : (o : Ordering) → is_lt o ≡ true → is_eq o ≡ false
less Less e = refl
less Equal e = absurd (true≢false (sym e))
less Greater e = absurd (true≢false (sym e))

none_above : (name : List ℕ) (rows : CellPools) → below_all order name rows ≡ true → cell_pool_in rows name ≡ None
none_above name [] below = refl
none_above name (row ∷ rows) below =
    let parts = and_parts (is_lt (order name row.0)) (below_all order name rows) below in
    ap (λ b. if b then Some row.1 else cell_pool_in rows name) (less (order name row.0) parts.0) ∙ none_above name rows parts.1

later_row : (row : List ℕ × CellPool) (rows : CellPools) (name : List ℕ) (pool : CellPool) → below_all order row.0 rows ≡ true → cell_pool_in rows name ≡ Some pool
    → cell_pool_in (row ∷ rows) name ≡ Some pool
later_row row rows name pool below found = go (order name row.0) refl where
  go : (o : Ordering) → order name row.0 ≡ o → cell_pool_in (row ∷ rows) name ≡ Some pool
  go Less is = absurd (some_none pool (sym found ∙ below_none name row.0 rows is below))
  go Equal is = absurd (some_none pool (sym found ∙ none_above name rows (ap (λ k. below_all order k rows) (same_name name row.0 is) ∙ below)))
  go Greater is = ap (λ o. if is_eq o then Some row.1 else cell_pool_in rows name) is ∙ found

-- A cell in use in a table is one of the cell pool of some name.
pub named_used : (table : CellPools) (cell : ℕ) → are_ascending table ≡ true → used table cell ≡ true → (name : List ℕ) × IsInUse table name cell
named_used [] cell up e = absurd (true≢false (sym e))
named_used (row ∷ rows) cell up e =
    let parts = and_parts (below_all order row.0 rows) (is_sorted order rows) up in
    elim (or_cases (is_in_use row.1 cell) (used rows cell) e) [
      | inl here ↦ (row.0, (row.1, ap (λ o. if is_eq o then Some row.1 else cell_pool_in rows row.0) (tied_itself nat_list_cmp_total row.0), here))
      | inr later ↦
          let (name, (pool, found, its)) = named_used rows cell parts.1 later in
          (name, (pool, later_row row rows name pool parts.0 found, its))
    ]

-- ---- a cell pool after a GET

-- the first of some numbers is taken away
first_out : (xs : List ℕ) (cell : ℕ) → is_in (drop 1 xs) cell ≡ false → (is_in xs cell ≡ false) ⊎ (unwrap_or (slice_get xs 0) 0 ≡ cell)
first_out [] cell e = inl refl
first_out (x ∷ xs) cell e = go (x == cell) refl where
  go : (b : Bool) → (x == cell) ≡ b → (is_in (x ∷ xs) cell ≡ false) ⊎ (x ≡ cell)
  go true is = inr (eqb-true x cell is)
  go false is = inl (ap (λ b. b || is_in xs cell) is ∙ e)

abbrev pub first_free : CellPool → ℕ
first_free pool = unwrap_or (slice_get pool.free 0) 0

abbrev pub without_first : CellPool → CellPool
without_first pool = record pool { free = drop 1 pool.free }

-- A cell that is in use then was in use before, or is the first free one.
pub used_after : (pool : CellPool) (cell : ℕ) → is_in_use (without_first pool) cell ≡ true → (first_free pool ≡ cell) ⊎ (is_in_use pool cell ≡ true)
used_after pool cell e =
    let parts = and_parts (is_in (cells_of pool) cell) (not (is_in (drop 1 pool.free) cell)) e in
    elim (first_out pool.free cell (not-true (is_in (drop 1 pool.free) cell) parts.1)) [
      | inl not_free ↦ inr (and_from (is_in (cells_of pool) cell) (not (is_in pool.free cell)) parts.0 (ap not not_free))
      | inr first ↦ inl first
    ]

in_neither : (a b : Bool) → (a || b) ≡ false → (a ≡ false) × (b ≡ false)
in_neither true b e = absurd (true≢false e)
in_neither false b e = (refl, e)

still_not : (xs ys : List ℕ) (c : ℕ) → is_in (xs ++ ys) c ≡ false → is_in xs c ≡ false
still_not [] ys c e = refl
still_not (x ∷ xs) ys c e =
    let parts = in_neither (x == c) (is_in (xs ++ ys) c) e in
    (λ i. parts.0 i || is_in xs c) ∙ still_not xs ys c parts.1

-- No cell of another extent is in use.
pub used_grown : (pool : CellPool) (x : CellExtent) (cell : ℕ) → is_in_use (with_extent pool x) cell ≡ true → is_in_use pool cell ≡ true
used_grown pool x cell e =
    let more : List ℕ = extent_cells pool.size x in
    let parts = and_parts (is_in (cells_of (with_extent pool x)) cell) (not (is_in (pool.free ++ more) cell)) e in
    let not_free : is_in (pool.free ++ more) cell ≡ false = not-true (is_in (pool.free ++ more) cell) parts.1 in
    elim (in_either (cells_of pool) more cell (ap (λ xs. is_in xs cell) (sym (cells_grown pool x)) ∙ parts.0)) [
      | inl old ↦ and_from (is_in (cells_of pool) cell) (not (is_in pool.free cell)) old (ap not (still_not pool.free more cell not_free))
      | inr new ↦ absurd (true≢false (sym (in_right pool.free more cell new) ∙ not_free))
    ]

-- one that is free again
pub used_freed : (pool : CellPool) (freed cell : ℕ) → is_in_use (record pool { free = freed ∷ pool.free }) cell ≡ true → is_in_use pool cell ≡ true
used_freed pool freed cell e =
    let parts = and_parts (is_in (cells_of pool) cell) (not (is_in (freed ∷ pool.free) cell)) e in
    and_from (is_in (cells_of pool) cell) (not (is_in pool.free cell)) parts.0
    (ap not (in_neither (freed == cell) (is_in pool.free cell) (not-true (is_in (freed ∷ pool.free) cell) parts.1)).1)
