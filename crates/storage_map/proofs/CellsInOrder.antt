-- Cell pools one after the other, and lists in a walk: what is next, and that nothing follows the last.
use Rattle.std.proofs.Common.{◌≡◌, ℕ, ◌+◌, ◌≤◌, true, false, zero, suc, List, [], ◌∷◌, Option, Some, None, IsSome, length, drop, refl, sym, ap, ◌∙◌, subst, arith, length-drop}
use Rattle.std.proofs.Props.{props}
use Rattle.std.specs.Prelude.{slice_get, IfSome, IfNone}
use Rattle.std.proofs.lemmas.List.{drop-drop}
use Rattle.std.proofs.lemmas.Option.{slice_get_past}
use mathlib.Core.Logic.{∥∥₁_elim}
use Rattle.vsm_elements.specs.Store.{Store}
use Rattle.cell_pool.specs.declared.pools.CellPools.{CellPools}
use Rattle.cell_pool.specs.Pools.{Pool}
use Rattle.cell_pool.specs.CellPools.{pool, by_id, IsCellPools}
use Rattle.cell_pool.specs.Laws.{PoolsAreOne}
use Rattle.cell_pool.specs.Order.{IsNext, IsLast}
use Rattle.storage_changes.specs.NamedPools.{AreNamed}
use Rattle.storage_changes.specs.TableOrder.{rows_behind, NoneIsBehind, IsFirstBehind, ComesInOrder}
use Rattle.storage_changes.specs.PoolTable.{cell_pool_of, cell_pools_in}
use Rattle.storage_changes.specs.MapCells.{EndInRegions, CellExtentsEndInRegions}
use Rattle.vsm_model.specs.CellPools.{CellPools as CellRows}
use Rattle.storage_core.specs.declared.storage.Storage.{Storage}
use Rattle.storage_map.specs.Cells.{cell_pool}
use Rattle.storage_core.specs.Meaning.{state_in_place, settings_of}

-- Of two lists of which one is the other from an index on: what is next, and when nothing is.
module _ {A : Type 0} (left all : List A) (k : ℕ) (is : left ≡ drop k all) where
  pub step_left : (x : A) (rest : List A) → left ≡ x ∷ rest → rest ≡ drop (k + 1) all
  step_left x rest next = ap (drop 1) (sym next ∙ is) ∙ drop-drop 1 k all

  pub none_left : (i : ℕ) → left ≡ [] → k ≤ i → slice_get all i ≡ None
  none_left i none behind = slice_get_past all i (omega (arith, length-drop k all, ap length (sym is ∙ none), behind))

at_front : {A : Type 0} (all : List A) (k : ℕ) (x : A) (rest : List A) → drop k all ≡ x ∷ rest → slice_get all k ≡ Some x
at_front [] zero x rest e = cc
at_front [] (suc k) x rest e = cc
at_front (y ∷ all) zero x rest e = cc
at_front (y ∷ all) (suc k) x rest e = at_front all k x rest e

pub here_left : {A : Type 0} (left all : List A) (k : ℕ) (x : A) (rest : List A) → left ≡ drop k all → left ≡ x ∷ rest → slice_get all k ≡ Some x
here_left left all k x rest is next = at_front all k x rest (sym is ∙ next)

-- what holds of a cell pool that exists
pub of_some : (o : Option Pool) (P Q : Pool → Type 0) → ((p : Pool) → o ≡ Some p → P p → Q p) → IfSome o P → IfSome o Q
of_some None P Q f h = h
of_some (Some p) P Q f h = f p refl h

-- Cell pools by their ids are those of the heads.
module _ (one : PoolsAreOne) (s : Store) (q : CellPools) (pools : ℕ → Option Pool) (stands : IsCellPools s q)
    (same : (id : ℕ) → by_id s q id ≡ pools id) (low : Option (List ℕ)) (order : ComesInOrder pools low) where
  some_named : (id : ℕ) (p : Pool) → pools id ≡ Some p → IsSome (pool s q p.name)
  some_named id p there =
      let Q : Option Pool → Type 0 = IsSome in
      subst Q (sym ((one s q stands).ids id p (same id ∙ there)).1) refl

  none_is_behind : IsLast (pool s q) low → NoneIsBehind pools low
  none_is_behind last id p there = last p.name (some_named id p there)

  is_first_behind : (p : Pool) → IsNext (pool s q) low p.name → IsFirstBehind pools low p
  is_first_behind p next =
      record { behind = next.behind; first = λ id x there behind. next.first x.name (some_named id x there) behind }

  pub no_rows : (o : Option ℕ) → IfNone o (IsLast (pool s q) low) → IfNone o (rows_behind (cell_pools_in pools) low ≡ [])
  no_rows None h = order.none (none_is_behind h)
  no_rows (Some id) h = h

  pub next_row : (o : Option ℕ) → IfSome o (λ id. IfSome (by_id s q id) (λ p. IsNext (pool s q) low p.name))
      → IfSome o (λ id. IfSome (pools id) (λ p. rows_behind (cell_pools_in pools) low
      ≡ (p.name, cell_pool_of p) ∷ rows_behind (cell_pools_in pools) (Some p.name)))
  next_row None h = h
  next_row (Some id) h =
      let P : Option Pool → Type 0 = λ z. IfSome z (λ p. IsNext (pool s q) low p.name) in
      of_some (pools id) (λ p. IsNext (pool s q) low p.name)
      (λ p. rows_behind (cell_pools_in pools) low ≡ (p.name, cell_pool_of p) ∷ rows_behind (cell_pools_in pools) (Some p.name))
      (λ p there next. order.next id p there (is_first_behind p next)) (subst P (same id) h)

  pub next_there : (o : Option ℕ) → IfSome o (λ id. IsSome (by_id s q id)) → IfSome o (λ id. IsSome (pools id))
  next_there None h = h
  next_there (Some id) h = let Q : Option Pool → Type 0 = IsSome in subst Q (same id) h

-- no extent of a cell pool ends past the regions
pub ends_in_regions : CellExtentsEndInRegions → (s : Storage) → AreNamed (state_in_place s).subpools.cells → (id : ℕ) → IfSome (cell_pool s id) EndInRegions
ends_in_regions law s named id = go (cell_pool s id) refl where
  go : (o : Option Pool) → cell_pool s id ≡ o → IfSome o EndInRegions
  go None e = tt
  go (Some p) e = ∥∥₁_elim s.held.sound (hlevel props) (λ sound. law (settings_of s) (state_in_place s) id p s.held.valid sound named e)

-- The rows after the name of the cell pool whose row is at an index are those from the next index on.
pub rows_left : (table : CellRows) (bytes : List ℕ) (k : ℕ) (o : Option Pool) → IsSome o
    → IfSome o (λ p. drop k table ≡ (p.name, cell_pool_of p) ∷ rows_behind table (Some p.name)) → IfSome o (λ p. bytes ≡ p.name)
    → rows_behind table (Some bytes) ≡ drop (k + 1) table
rows_left table bytes k None there left named = absurd (let no : false ≡ true = there in cc)
rows_left table bytes k (Some p) there left named =
    ap (λ n. rows_behind table (Some n)) named
    ∙ step_left (drop k table) table k refl (p.name, cell_pool_of p) (rows_behind table (Some p.name)) left
