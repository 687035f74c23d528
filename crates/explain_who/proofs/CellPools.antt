-- Cell pools and their extents, walked over up to an address.
use Rattle.std.proofs.Common.{◌≡◌, ◌↔◌, ℕ, ◌+◌, ◌*◌, ◌<◌, ◌≤◌, Bool, true, false, ◌||◌, nat_le, nat_lt, if◌then◌else◌, List, [], ◌∷◌, map, Bor, Option, Some, None, IsSome, length, refl, sym, ap, ◌∙◌, subst, arith}
use Rattle.std.specs.Prelude.{IfSome, option_copied, option_map, unwrap_or}
use Rattle.arrayvec.specs.ArrayString.{ArrayString}
use Rattle.arrayvec.specs.ArrayVec.{ArrayVec}
use Rattle.std.specs.List.{list_any}
use Rattle.std.proofs.lemmas.Bool.{and_from, and_parts, false_from_ne_true, leb-true, lt-ltb}
use Rattle.std.proofs.Math.Logic.{∥∥₁_elim}
use Rattle.std.proofs.Math.Bool.{Bool-set}
use Rattle.vsm_elements.specs.Store.{Store}
use Rattle.cell_pool.specs.CellPools.{pool, by_id}
use Rattle.cell_pool.specs.Laws.{AreOne}
use Rattle.cell_pool.specs.declared.pools.CellPools.{CellPools as Heads}
use Rattle.cell_pool.specs.declared.settings.Extent.{Extent}
use Rattle.cell_pool.specs.Pools.{Meets, Pool, uses}
use Rattle.storage_changes.specs.NamedPools.{AreNamed}
use Rattle.storage_changes.specs.PoolTable.{cell_pool_of, cell_pools_in, extent_of}
use Rattle.storage_changes.specs.TableLaws.{OverlapsAreMet, overlaps_table}
use Rattle.storage_changes.specs.TableOrder.{rows_behind}
use Rattle.vsm_model.specs.CellPools.{CellExtent, CellPool, CellPools}
use Rattle.vsm_model.specs.Regions.{doublewords}
use Rattle.vsm_model.specs.Releasing.{overlaps_extent}
use Rattle.vsm_model.specs.declared.Subpool.{Subpool}
use Rattle.explain_who.specs.Taken.{cell_at, cell_in, cell_with, extent_with, has_address, taken_by, taken_cell, taken_in}
use Rattle.explain_who.specs.declared.takers.Taken.{Taken}
use Rattle.explain_who.specs.declared.takers.Taken.TheVariants as taken
use Rattle.explain_who.proofs.InUse.{uses_same}

-- ---- what holds of a cell pool that is there

pub each : (o : Option Pool) (Q : Pool → Type 0) → ((p : Pool) → o ≡ Some p → Q p) → IfSome o Q
each None Q f = tt
each (Some p) Q f = f p refl

pub fact_of : (P : Pool → Type 0) (o : Option Pool) (p : Pool) → o ≡ Some p → IfSome o P → P p
fact_of P o p e h = subst (λ (z : Option Pool). IfSome z P) e h

-- ---- its extents

-- the first that has the address
abbrev pub first_of : ℕ → ℕ → List Extent → Option CellExtent
first_of size address xs = extent_with size address (map extent_of xs)

module _ (size address : ℕ) (x : Extent) (left rest : List Extent) (next : left ≡ x ∷ rest) where
  pub extent_passed : has_address size address (extent_of x) ≡ false → first_of size address left ≡ first_of size address rest
  extent_passed out =
      ap (first_of size address) next
      ∙ ap (λ (b : Bool). if b then Some (extent_of x) else first_of size address rest) out

  pub extent_found : has_address size address (extent_of x) ≡ true → first_of size address left ≡ Some (extent_of x)
  extent_found has =
      ap (first_of size address) next
      ∙ ap (λ (b : Bool). if b then Some (extent_of x) else first_of size address rest) has

pub starts_before : (size address : ℕ) (x : CellExtent) → has_address size address x ≡ true → x.address ≤ address
starts_before size address x has =
    leb-true x.address address (and_parts (nat_le x.address address) (nat_lt address (x.address + 8 * doublewords (x.cells * size))) has).0

-- ---- how the pool takes the address

module _ (p : Pool) (cell : ℕ) (name : ArrayVec ℕ) (named : name.items ≡ p.name) where
  abbrev of_use : Bool → Taken
  of_use used = if used then taken.UsedCell (record { items = p.name }) else taken.FreeCell (record { items = p.name })

  pub cell_used : true ≡ uses p cell → taken.UsedCell name ≡ taken_cell p.name (cell_pool_of p) (Some cell)
  cell_used used = ap (λ (n : List ℕ). taken.UsedCell (record { items = n })) named ∙ ap of_use (used ∙ sym (uses_same p cell))

  pub cell_free : false ≡ uses p cell → taken.FreeCell name ≡ taken_cell p.name (cell_pool_of p) (Some cell)
  cell_free free = ap (λ (n : List ℕ). taken.FreeCell (record { items = n })) named ∙ ap of_use (free ∙ sym (uses_same p cell))

  pub past_cells : taken.PastCells name ≡ taken_cell p.name (cell_pool_of p) None
  past_cells = ap (λ (n : List ℕ). taken.PastCells (record { items = n })) named

pub pool_takes : (p : Pool) (address size : ℕ) (found : Option Extent) (r : Option Taken) → size ≡ p.settings.size
    → option_map extent_of found ≡ extent_with size address (map extent_of p.extents)
    → r ≡ option_map (λ (x : CellExtent). taken_cell p.name (cell_pool_of p) (cell_with size address x)) (option_map extent_of found)
    → r ≡ taken_in address p.name (cell_pool_of p)
pool_takes p address size found r same first is =
    is
    ∙ ap (option_map (λ (x : CellExtent). taken_cell p.name (cell_pool_of p) (cell_with size address x))) first
    ∙ ap (λ (n : ℕ). option_map (λ (x : CellExtent). taken_cell p.name (cell_pool_of p) (cell_with n address x)) (extent_with n address (map extent_of p.extents))) same

-- the cell in which the address lies
pub cell_is_in : (p : Pool) (address size : ℕ) (found : Option Extent) (r : Option (Option ℕ)) → size ≡ p.settings.size
    → option_map extent_of found ≡ extent_with size address (map extent_of p.extents)
    → r ≡ option_map (cell_with size address) (option_map extent_of found)
    → r ≡ cell_in address (cell_pool_of p)
cell_is_in p address size found r same first is =
    is
    ∙ ap (option_map (cell_with size address)) first
    ∙ ap (λ (n : ℕ). option_map (cell_with n address) (extent_with n address (map extent_of p.extents))) same

-- ---- lists that are walked over

pub shorter : {A : Type 0} (xs ys : List A) (x : A) → xs ≡ x ∷ ys → length ys < length xs
shorter xs ys x e = omega (arith, ap length e)

-- ---- the rows of the table

-- all of them come after no name
pub all_rows : (table : CellPools) → rows_behind table None ≡ table
all_rows [] = refl
all_rows (row ∷ table) = ap (λ (z : CellPools). row ∷ z) (all_rows table)

-- the name after which the walk is
pub low_is : (o : Option (Bor ArrayString)) (p : Option ArrayString) → option_copied o ≡ p
    → option_map (λ (n : Bor ArrayString). n.now.bytes) o ≡ option_map (λ (n : ArrayString). n.bytes) p
low_is None p e = ap (option_map (λ (n : ArrayString). n.bytes)) e
low_is (Some r) p e = ap (option_map (λ (n : ArrayString). n.bytes)) e

module _ (q : Subpool) (address : ℕ) (row : List ℕ × CellPool) (left rest : CellPools) (next : left ≡ row ∷ rest) where
  pub row_passed : taken_in address row.0 row.1 ≡ None → taken_by q address left ≡ taken_by q address rest
  row_passed none = ap (taken_by q address) next ∙ ap (λ (o : Option Taken). unwrap_or o (taken_by q address rest)) none

  pub row_takes : (t : Taken) → taken_in address row.0 row.1 ≡ Some t → taken_by q address left ≡ t
  row_takes t takes = ap (taken_by q address) next ∙ ap (λ (o : Option Taken). unwrap_or o (taken_by q address rest)) takes

-- of the rows after a name the first is that of the cell pool that comes next
module _ (q : Subpool) (address : ℕ) (table : CellPools) (low : Option (List ℕ)) where
  abbrev IsNextRow : Pool → Type 0
  IsNextRow p = rows_behind table low ≡ (p.name, cell_pool_of p) ∷ rows_behind table (Some p.name)

  after : (p : Pool) (name : List ℕ) → IsNextRow p → name ≡ p.name → rows_behind table low ≡ (p.name, cell_pool_of p) ∷ rows_behind table (Some name)
  after p name next named = next ∙ ap (λ (n : List ℕ). (p.name, cell_pool_of p) ∷ rows_behind table (Some n)) (sym named)

  pub pool_passed : (o : Option Pool) (name : List ℕ) → IsSome o → IfSome o IsNextRow → IfSome o (λ p. name ≡ p.name)
      → IfSome o (λ p. None ≡ taken_in address p.name (cell_pool_of p)) → taken_by q address (rows_behind table low) ≡ taken_by q address (rows_behind table (Some name))
  pool_passed None name there next named none = absurd (let no : false ≡ true = there in cc)
  pool_passed (Some p) name there next named none =
      row_passed q address (p.name, cell_pool_of p) (rows_behind table low) (rows_behind table (Some name)) (after p name next named) (sym none)

  pub pool_is_first : (o : Option Pool) (t : Taken) → IsSome o → IfSome o IsNextRow
      → IfSome o (λ p. Some t ≡ taken_in address p.name (cell_pool_of p)) → taken_by q address (rows_behind table low) ≡ t
  pool_is_first None t there next takes = absurd (let no : false ≡ true = there in cc)
  pool_is_first (Some p) t there next takes =
      row_takes q address (p.name, cell_pool_of p) (rows_behind table low) (rows_behind table (Some p.name)) next t (sym takes)

  pub fewer_rows : (o : Option Pool) (name : List ℕ) → IsSome o → IfSome o IsNextRow → IfSome o (λ p. name ≡ p.name)
      → length (rows_behind table (Some name)) < length (rows_behind table low)
  fewer_rows None name there next named = absurd (let no : false ≡ true = there in cc)
  fewer_rows (Some p) name there next named =
      shorter (rows_behind table low) (rows_behind table (Some name)) (p.name, cell_pool_of p) (after p name next named)

module _ (address : ℕ) (row : List ℕ × CellPool) (left rest : CellPools) (next : left ≡ row ∷ rest) where
  cell_passed : cell_in address row.1 ≡ None → cell_at address left ≡ cell_at address rest
  cell_passed none = ap (cell_at address) next ∙ ap (λ (o : Option (Option ℕ)). unwrap_or o (cell_at address rest)) none

  cell_found : (t : Option ℕ) → cell_in address row.1 ≡ Some t → cell_at address left ≡ t
  cell_found t has = ap (cell_at address) next ∙ ap (λ (o : Option (Option ℕ)). unwrap_or o (cell_at address rest)) has

-- the cell pool that comes next after a name has the address, or not
module _ (address : ℕ) (table : CellPools) (low : Option (List ℕ)) where
  abbrev IsNextOf : Pool → Type 0
  IsNextOf p = rows_behind table low ≡ (p.name, cell_pool_of p) ∷ rows_behind table (Some p.name)

  pub cell_pool_passed : (o : Option Pool) (name : List ℕ) → IsSome o → IfSome o IsNextOf → IfSome o (λ p. name ≡ p.name)
      → IfSome o (λ p. None ≡ cell_in address (cell_pool_of p)) → cell_at address (rows_behind table low) ≡ cell_at address (rows_behind table (Some name))
  cell_pool_passed None name there next named none = absurd (let no : false ≡ true = there in cc)
  cell_pool_passed (Some p) name there next named none =
      cell_passed address (p.name, cell_pool_of p) (rows_behind table low) (rows_behind table (Some name))
      (next ∙ ap (λ (n : List ℕ). (p.name, cell_pool_of p) ∷ rows_behind table (Some n)) (sym named)) (sym none)

  pub cell_pool_has : (o : Option Pool) (t : Option ℕ) → IsSome o → IfSome o IsNextOf
      → IfSome o (λ p. Some t ≡ cell_in address (cell_pool_of p)) → cell_at address (rows_behind table low) ≡ t
  cell_pool_has None t there next has = absurd (let no : false ≡ true = there in cc)
  cell_pool_has (Some p) t there next has =
      cell_found address (p.name, cell_pool_of p) (rows_behind table low) (rows_behind table (Some p.name)) next t (sym has)

-- ---- no row has the address

neither : (a b : Bool) → (a || b) ≡ false → (a ≡ false) × (b ≡ false)
neither false b h = (refl, h)
neither true b h = absurd (let no : true ≡ false = h in cc)

module _ (pool : CellPool) (address : ℕ) where
  outside : (x : CellExtent) → overlaps_extent address 1 pool x ≡ false → has_address pool.size address x ≡ false
  outside x out =
      let end = x.address + 8 * doublewords (x.cells * pool.size) in
      false_from_ne_true (has_address pool.size address x)
      (λ has.
      let both = and_parts (nat_le x.address address) (nat_lt address end) has in
      let from = leb-true x.address address both.0 in
      let met : overlaps_extent address 1 pool x ≡ true = and_from (nat_lt address end) (nat_lt x.address (address + 1)) both.1 (lt-ltb x.address (address + 1) (omega (arith, from))) in
      cc)

  none_in : (xs : List CellExtent) → list_any (overlaps_extent address 1 pool) xs ≡ false → extent_with pool.size address xs ≡ None
  none_in [] h = refl
  none_in (x ∷ xs) h =
      let both = neither (overlaps_extent address 1 pool x) (list_any (overlaps_extent address 1 pool) xs) h in
      ap (λ (b : Bool). if b then Some x else extent_with pool.size address xs) (outside x both.0) ∙ none_in xs both.1

pub none_takes : (q : Subpool) (address : ℕ) (table : CellPools) → overlaps_table table address 1 ≡ false → taken_by q address table ≡ taken.Obtained q
none_takes q address [] h = refl
none_takes q address (row ∷ rows) h =
    let pool = row.1 in
    let both = neither (list_any (overlaps_extent address 1 pool) pool.extents) (overlaps_table rows address 1) h in
    let F : Option CellExtent → Option Taken = option_map (λ (x : CellExtent). taken_cell row.0 pool (cell_with pool.size address x)) in
    ap (λ (o : Option CellExtent). unwrap_or (F o) (taken_by q address rows)) (none_in pool address pool.extents both.0) ∙ none_takes q address rows both.1

-- Whether one of them has the address, by cell pools that stand: those that are found by their ids are those that are
-- found by their names.
module _ (s : Store) (q : Heads) (pools : ℕ → Option Pool) (met : OverlapsAreMet) (one : AreOne s q) (named : AreNamed pools)
    (same : (id : ℕ) → by_id s q id ≡ pools id) (address : ℕ) where
  pub met_by : (b : Bool) → (b ≡ true) ↔ Meets (pool s q) address 1 → b ≡ overlaps_table (cell_pools_in pools) address 1
  met_by true h =
      let (name, p, at, is) = h.0 refl in
      sym ((met pools address 1 named).1 ∣ (p.id, p, sym (same p.id) ∙ (one.names name p at).1, is) ∣₁)
  met_by false h =
      sym (false_from_ne_true (overlaps_table (cell_pools_in pools) address 1)
      (λ e. no (∥∥₁_elim ((met pools address 1 named).0 e) (Bool-set _ _)
      (λ found. let (id, p, at, is) = found in h.1 (p.name, p, (one.ids id p (same id ∙ at)).1, is)))))
    where
      no : false ≡ true → ⊥
      no e = cc
