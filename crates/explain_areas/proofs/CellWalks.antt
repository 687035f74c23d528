-- The cells in use, as a walk adds them.
use Rattle.std.proofs.Common.{◌≡◌, ℕ, zero, suc, ◌+◌, ◌*◌, ◌/◌, ◌^◌, ◌<◌, Bool, true, false, if◌then◌else◌, Option, Some, None, Result, Ok, Err, List, [], ◌∷◌, ◌++◌, All, filter, flat_map, map, refl, sym, ap, ◌∙◌, append_assoc, arith, subst}
use Rattle.std.specs.Prelude.{IfOk, IfSome, IsSome, unwrap_or}
use Rattle.std.proofs.lemmas.Bool.{or_left, or_right}
use Rattle.std.proofs.lemmas.List.{append-nil, map-append}
use Rattle.cell_pool.specs.declared.settings.Extent.{Extent}
use Rattle.arrayvec.specs.ArrayVec.{ArrayVec}
use Rattle.cell_pool.specs.declared.settings.CellSettings.{CellSettings}
use Rattle.cell_pool.specs.Pools.{Pool, rounded, uses}
use Rattle.macro_statements.specs.Requests.{Act}
use Rattle.storage_changes.specs.MapCells.{EndInRegions}
use Rattle.storage_changes.specs.PoolTable.{cell_pool_of, extent_of}
use Rattle.storage_changes.specs.TableOrder.{rows_behind}
use Rattle.storage_core.specs.declared.storage.Storage.{Storage}
use Rattle.storage_map.specs.Cells.{cell_pool}
use Rattle.vsm_model.specs.CellPools.{CellPool, CellPools, cells_from, cells_of, extent_cells}
use Rattle.vsm_model.specs.Cells.{is_in_use}
use Rattle.vsm_model.specs.declared.limits.Settings.{Settings}
use Rattle.explain_who.proofs.CellPools.{each, fact_of}
use Rattle.explain_who.proofs.InUse.{uses_same}
use Rattle.explain_areas.specs.Cells.{AddsCells, cells_among, cells_in_use, used_cells}
use Rattle.explain_standing.specs.NumberMaps.{number_in}
use Rattle.explain_standing.specs.Since.{got_since, is_cell_in_use, machine_after}
use Rattle.explain_areas.specs.declared.cells.LineCell.{LineCell}
use Rattle.explain_areas.specs.declared.cells.PoolCells.{PoolCells}
use Rattle.explain_standing.proofs.UsedCells.{used}

-- ---- the cells of an extent

filter_both : (test : ℕ → Bool) (xs ys : List ℕ) → filter test (xs ++ ys) ≡ filter test xs ++ filter test ys
filter_both test [] ys = refl
filter_both test (x ∷ xs) ys = go (test x) (filter_both test xs ys) where
  go : (b : Bool) → filter test (xs ++ ys) ≡ filter test xs ++ filter test ys →
      (if b then x ∷ filter test (xs ++ ys) else filter test (xs ++ ys)) ≡ (if b then x ∷ filter test xs else filter test xs) ++ filter test ys
  go true rest = ap (λ zs. x ∷ zs) rest
  go false rest = rest

both_among : (lines : ℕ → ℕ) (name : List ℕ) (pool : CellPool) (xs ys : List ℕ) → cells_among lines name pool (xs ++ ys) ≡ cells_among lines name pool xs ++ cells_among lines name pool ys
both_among lines name pool xs ys =
    let row : ℕ → LineCell = λ cell. record { pool = record { items = name }; subpool = pool.subpool; start = cell; size = pool.size; line = lines cell } in
    ap (map row) (filter_both (is_in_use pool) xs ys) ∙ map-append row (filter (is_in_use pool) xs) (filter (is_in_use pool) ys)

pub cells_more : (size start n : ℕ) → cells_from size start (n + 1) ≡ cells_from size start n ++ (start + n * size) ∷ []
cells_more size start zero =
    let next : 0 + 1 ≡ suc 0 = omega arith in
    let at : start ≡ start + 0 * size = omega arith in
    ap (cells_from size start) next ∙ ap (λ k. k ∷ []) at
cells_more size start (suc n) =
    let next : suc n + 1 ≡ suc (n + 1) = omega arith in
    let at : start + size + n * size ≡ start + suc n * size = omega arith in
    ap (cells_from size start) next ∙ ap (λ xs. start ∷ xs) (cells_more size (start + size) n ∙ ap (λ k. cells_from size (start + size) n ++ k ∷ []) at)

module _ (s : Storage) (p : PoolCells) where
  abbrev pub lines_in : ℕ → ℕ
  lines_in cell = unwrap_or (number_in p.lines.now (cell / 4)) 0

  pub adds_none : (xs : List LineCell) → AddsCells s p [] xs xs
  adds_none xs = each (cell_pool s p.id) _ (λ its there. sym (append-nil xs))

  pub adds_both : (one two : List ℕ) (a b c : List LineCell) → AddsCells s p one a b → AddsCells s p two b c → AddsCells s p (one ++ two) a c
  adds_both one two a b c first second =
      each (cell_pool s p.id) (λ its. c ≡ a ++ cells_among lines_in its.name (cell_pool_of its) (one ++ two))
      (λ its there.
      fact_of (λ its. c ≡ b ++ cells_among lines_in its.name (cell_pool_of its) two) (cell_pool s p.id) its there second
      ∙ ap (λ xs. xs ++ cells_among lines_in its.name (cell_pool_of its) two) (fact_of (λ its. b ≡ a ++ cells_among lines_in its.name (cell_pool_of its) one) (cell_pool s p.id) its there first)
      ∙ append_assoc a (cells_among lines_in its.name (cell_pool_of its) one) (cells_among lines_in its.name (cell_pool_of its) two)
      ∙ ap (λ xs. a ++ xs) (sym (both_among lines_in its.name (cell_pool_of its) one two)))

-- ---- the extents of a cell pool

-- an extent ends low enough
abbrev pub Ends : ℕ → Extent → Type 0
Ends size x = x.start + rounded (x.count * size) < 2 ^ 31

pub end_fits : (size : ℕ) (x : Extent) → Ends size x → x.start + x.count * size < 2 ^ 32
end_fits size x low = omega (arith, low)

-- the cells of some extents of a cell pool that are in use
abbrev pub of_extents : (ℕ → ℕ) → Pool → List Extent → List LineCell
of_extents lines its xs = cells_among lines its.name (cell_pool_of its) (flat_map (extent_cells its.settings.size) (map extent_of xs))

-- Those that were added and those of the extents that are left are those that are to be added.
abbrev pub Remain : (ℕ → ℕ) → List LineCell → List LineCell → List Extent → Pool → Type 0
Remain lines old now rest its = now ++ of_extents lines its rest ≡ old ++ cells_in_use lines its.name (cell_pool_of its)

pub extent_added : (lines : ℕ → ℕ) (old now new : List LineCell) (x : Extent) (left rest : List Extent) (its : Pool) → left ≡ x ∷ rest →
    new ≡ now ++ cells_among lines its.name (cell_pool_of its) (cells_from its.settings.size x.start x.count) →
    Remain lines old now left its → Remain lines old new rest its
extent_added lines old now new x left rest its next added before =
    let here : List ℕ = cells_from its.settings.size x.start x.count in
    let more : List ℕ = flat_map (extent_cells its.settings.size) (map extent_of rest) in
    ap (λ xs. xs ++ of_extents lines its rest) added
    ∙ append_assoc now (cells_among lines its.name (cell_pool_of its) here) (of_extents lines its rest)
    ∙ ap (λ xs. now ++ xs) (sym (both_among lines its.name (cell_pool_of its) here more))
    ∙ ap (λ xs. now ++ of_extents lines its xs) (sym next)
    ∙ before

-- ---- the cell pools

abbrev pub row_cells : (ℕ → ℕ) → List ℕ × CellPool → List LineCell
row_cells lines row = cells_in_use lines row.0 row.1

pub row_added : (lines : ℕ → ℕ) (now new all : List LineCell) (row : List ℕ × CellPool) (left rest : CellPools) → left ≡ row ∷ rest → new ≡ now ++ row_cells lines row →
    now ++ flat_map (row_cells lines) left ≡ all → new ++ flat_map (row_cells lines) rest ≡ all
row_added lines now new all row left rest next added before =
    ap (λ xs. xs ++ flat_map (row_cells lines) rest) added
    ∙ append_assoc now (row_cells lines row) (flat_map (row_cells lines) rest)
    ∙ ap (λ rows. now ++ flat_map (row_cells lines) rows) (sym next)
    ∙ before

-- ---- lines that agree on cells in use

abbrev rows_at : (ℕ → ℕ) → List ℕ → CellPool → List ℕ → List LineCell
rows_at lines name pool = map (λ cell. record { pool = record { items = name }; subpool = pool.subpool; start = cell; size = pool.size; line = lines cell })

module _ (f g : ℕ → ℕ) where
  same_among : (name : List ℕ) (pool : CellPool) (cells : List ℕ) → ((cell : ℕ) → is_in_use pool cell ≡ true → f cell ≡ g cell) →
      cells_among f name pool cells ≡ cells_among g name pool cells
  same_among name pool [] same = refl
  same_among name pool (x ∷ xs) same = go (is_in_use pool x) refl (same_among name pool xs same) where
    go : (b : Bool) → is_in_use pool x ≡ b → cells_among f name pool xs ≡ cells_among g name pool xs →
        rows_at f name pool (if b then x ∷ filter (is_in_use pool) xs else filter (is_in_use pool) xs)
        ≡ rows_at g name pool (if b then x ∷ filter (is_in_use pool) xs else filter (is_in_use pool) xs)
    go true is rest = λ i. record { pool = record { items = name }; subpool = pool.subpool; start = x; size = pool.size; line = same x is i } ∷ rest i
    go false is rest = rest

  pub same_cells : (table : CellPools) → ((cell : ℕ) → used table cell ≡ true → f cell ≡ g cell) → flat_map (row_cells f) table ≡ flat_map (row_cells g) table
  same_cells [] same = refl
  same_cells (row ∷ rows) same =
      λ i. same_among row.0 row.1 (cells_of row.1) (λ cell its. same cell (or_left (is_in_use row.1 cell) (used rows cell) its)) i
      ++ same_cells rows (λ cell its. same cell (or_right (is_in_use row.1 cell) (used rows cell) its)) i

-- The cells that are found are those in use.
pub left_cells : {V E : Type 0} (settings : Settings) (xs : List (ℕ × Act)) (r : Result V E) (items : V → List LineCell) (f : ℕ → ℕ) (table : CellPools) →
    table ≡ (machine_after settings xs).storage.cell_pools →
    ((cell : ℕ) → is_cell_in_use (machine_after settings xs).storage cell ≡ true → f cell ≡ unwrap_or (got_since settings xs cell) 0) →
    IfOk r (λ v. items v ≡ flat_map (row_cells f) table) → IfOk r (λ v. items v ≡ used_cells settings xs)
left_cells settings xs (Ok v) items f table is same found =
    found ∙ ap (flat_map (row_cells f)) is ∙ same_cells f (λ cell. unwrap_or (got_since settings xs cell) 0) (machine_after settings xs).storage.cell_pools same
left_cells settings xs (Err e) items f table is same found = tt

-- ---- the steps of the walks

module _ (lines : ℕ → ℕ) (its : Pool) (cell : ℕ) (old : List LineCell) where
  abbrev with_one : List LineCell
  with_one = old ++ cells_among lines its.name (cell_pool_of its) (cell ∷ [])

  abbrev row : LineCell
  row = record { pool = record { items = its.name }; subpool = its.settings.subpool; start = cell; size = its.settings.size; line = lines cell }

  pub free_cell : false ≡ uses its cell → old ≡ with_one
  free_cell is =
      sym (ap (λ b. old ++ map (λ (c : ℕ). record row { start = c; line = lines c }) (if b then cell ∷ [] else [])) (uses_same its cell ∙ sym is) ∙ append-nil old)

  pub used_cell : (pool : ArrayVec ℕ) (settings : CellSettings) (line : ℕ) (new : List LineCell) → true ≡ uses its cell → pool.items ≡ its.name → settings ≡ its.settings →
      line ≡ lines cell → new ≡ old ++ record { pool = pool; subpool = settings.subpool; start = cell; size = settings.size; line = line } ∷ [] → new ≡ with_one
  used_cell pool settings line new is named built told pushed =
      pushed
      ∙ (λ i. old ++ record { pool = record { items = named i }; subpool = (built i).subpool; start = cell; size = (built i).size; line = told i } ∷ [])
      ∙ sym (ap (λ b. old ++ map (λ (c : ℕ). record row { start = c; line = lines c }) (if b then cell ∷ [] else [])) (uses_same its cell ∙ sym is))

pub all_end : (o : Option Pool) (settings : CellSettings) (xs : List Extent) → IsSome o → IfSome o EndInRegions → IfSome o (λ p. settings ≡ p.settings)
    → IfSome o (λ p. xs ≡ p.extents) → All (Ends settings.size) xs
all_end None settings xs there ends built are = absurd (let no : false ≡ true = there in cc)
all_end (Some p) settings xs there ends built are =
    subst (λ (z : CellSettings). All (Ends z.size) xs) (sym built) (subst (All (Ends p.settings.size)) (sym are) ends)

pub next_row : (lines : ℕ → ℕ) (now new all : List LineCell) (table : CellPools) (low : Option (List ℕ)) (name : List ℕ) (o : Option Pool) → IsSome o
    → IfSome o (λ p. rows_behind table low ≡ (p.name, cell_pool_of p) ∷ rows_behind table (Some p.name)) → IfSome o (λ p. name ≡ p.name)
    → IfSome o (λ p. new ≡ now ++ cells_in_use lines p.name (cell_pool_of p)) → now ++ flat_map (row_cells lines) (rows_behind table low) ≡ all
    → new ++ flat_map (row_cells lines) (rows_behind table (Some name)) ≡ all
next_row lines now new all table low name None there next named added before = absurd (let no : false ≡ true = there in cc)
next_row lines now new all table low name (Some p) there next named added before =
    ap (λ n. new ++ flat_map (row_cells lines) (rows_behind table (Some n))) named
    ∙ row_added lines now new all (p.name, cell_pool_of p) (rows_behind table low) (rows_behind table (Some p.name)) next added before
