-- The table of cell pools, split at a name.
use Rattle.std.proofs.Common.{◌≡◌, ◌≢◌, ℕ, Ordering, Less, Equal, Greater, Bool, true, false, not, cond, T, Option, Some, None, List, [], ◌∷◌, ◌++◌, refl, sym, ◌∙◌, ap, subst, true≢false}
use Rattle.std.specs.Ordering.{nat_cmp, eq_by_cmp, is_lt, is_eq}
use Rattle.std.specs.Cmp.{tied_itself}
use Rattle.std.specs.Cmp.Lexicographic.{slice_cmp, nat_list_cmp_total}
use Rattle.std.specs.FinMap.{is_sorted, slice_cmp-IsAntisymmetric, nat_cmp-IsAntisymmetric}
use Rattle.std.specs.FinMap.Entries.{by_order, below_all, find-put, find-where_key, is_sorted-put, is_sorted-where_key}
use Rattle.std.proofs.lemmas.Bool.{cond-true, cond-false, and_parts}
use Rattle.vsm_model.specs.CellPools.{CellPool, CellPools, cell_pool_in, with_cell_pool, without_cell_pool, are_ascending}

abbrev pub order : List ℕ → List ℕ → Ordering
order = slice_cmp nat_cmp

tested : (b : Bool) → T b → b ≡ true
tested true h = refl
tested false h = absurd h

pub same_name : (a b : List ℕ) → order a b ≡ Equal → a ≡ b
same_name a b e = slice_cmp-IsAntisymmetric nat_cmp-IsAntisymmetric a b e

some_none : (p : CellPool) → ◌≡◌ {A = Option CellPool} (Some p) None → ⊥
some_none p e = cc

pub same_pool : (p q : CellPool) → ◌≡◌ {A = Option CellPool} (Some p) (Some q) → p ≡ q
same_pool p q e = cc

less : (o : Ordering) → is_lt o ≡ true → o ≡ Less
less Less e = refl
less Equal e = absurd (true≢false (sym e))
less Greater e = absurd (true≢false (sym e))

-- a name below the names of a list isn't found in it
pub below_none : (name first : List ℕ) (table : CellPools) → order name first ≡ Less → below_all order first table ≡ true → cell_pool_in table name ≡ None
below_none name first [] e below = refl
below_none name first (row ∷ table) e below =
    let parts = and_parts (is_lt (order first row.0)) (below_all order first table) below in
    ap (λ o. cond (is_eq o) (Some row.1) (cell_pool_in table name)) (nat_list_cmp_total.trans name first row.0 e (less _ parts.0))
    ∙ below_none name first table e parts.1

-- none of the names above one is that one
none_removed : (first : List ℕ) (table : CellPools) → below_all order first table ≡ true → without_cell_pool table first ≡ table
none_removed first [] below = refl
none_removed first (row ∷ table) below =
    let parts = and_parts (is_lt (order first row.0)) (below_all order first table) below in
    ap (λ o. cond (not (is_eq o)) (row ∷ without_cell_pool table first) (without_cell_pool table first)) (less _ parts.0)
    ∙ ap (λ rest. row ∷ rest) (none_removed first table parts.1)

-- The rows before and after that of the name.
pub record Row (table : CellPools) (name : List ℕ) (pool : CellPool) : Type 0 where
  pub before : CellPools
  pub after : CellPools
  pub is : table ≡ before ++ (name, pool) ∷ after
  pub put_is : (new : CellPool) → with_cell_pool table name new ≡ before ++ (name, new) ∷ after
  pub without_is : without_cell_pool table name ≡ before ++ after

pub row_of : (table : CellPools) (name : List ℕ) (pool : CellPool) → are_ascending table ≡ true → cell_pool_in table name ≡ Some pool → Row table name pool
row_of [] name pool up found = absurd (some_none pool (sym found))
row_of (row ∷ table) name pool up found =
    let parts = and_parts (below_all order row.0 table) (is_sorted order table) up in
    elim (order name row.0) as (λ o. order name row.0 ≡ o → Row (row ∷ table) name pool) [
      | Less ↦ λ e. absurd (some_none pool (sym found
          ∙ ap (λ o. cond (is_eq o) (Some row.1) (cell_pool_in table name)) e ∙ below_none name row.0 table e parts.0))
      | Equal ↦ λ e.
          let key : name ≡ row.0 = same_name name row.0 e in
          let value : row.1 ≡ pool = same_pool row.1 pool (sym (ap (λ o. cond (is_eq o) (Some row.1) (cell_pool_in table name)) e) ∙ found) in
          record {
            before = [];
            after = table;
            is = λ i. (sym key i, value i) ∷ table;
            put_is = λ new.
                ap (λ o. by_order o ((name, new) ∷ row ∷ table) ((row.0, new) ∷ table) (row ∷ with_cell_pool table name new)) e
                ∙ ap (λ k. (k, new) ∷ table) (sym key);
            without_is =
                ap (λ o. cond (not (is_eq o)) (row ∷ without_cell_pool table name) (without_cell_pool table name)) e
                ∙ ap (without_cell_pool table) key ∙ none_removed row.0 table parts.0;
          }
      | Greater ↦ λ e.
          let rest = row_of table name pool parts.1 (sym (ap (λ o. cond (is_eq o) (Some row.1) (cell_pool_in table name)) e) ∙ found) in
          record {
            before = row ∷ rest.before;
            after = rest.after;
            is = ap (λ t. row ∷ t) rest.is;
            put_is = λ new.
                ap (λ o. by_order o ((name, new) ∷ row ∷ table) ((row.0, new) ∷ table) (row ∷ with_cell_pool table name new)) e
                ∙ ap (λ t. row ∷ t) (rest.put_is new);
            without_is =
                ap (λ o. cond (not (is_eq o)) (row ∷ without_cell_pool table name) (without_cell_pool table name)) e
                ∙ ap (λ t. row ∷ t) rest.without_is;
          }
    ] refl

-- The rows before and after the place of a name that has none.
pub record Gap (table : CellPools) (name : List ℕ) : Type 0 where
  pub before : CellPools
  pub after : CellPools
  pub is : table ≡ before ++ after
  pub put_is : (new : CellPool) → with_cell_pool table name new ≡ before ++ (name, new) ∷ after

pub gap_of : (table : CellPools) (name : List ℕ) → cell_pool_in table name ≡ None → Gap table name
gap_of [] name none = record { before = []; after = []; is = refl; put_is = λ new. refl }
gap_of (row ∷ table) name none =
    elim (order name row.0) as (λ o. order name row.0 ≡ o → Gap (row ∷ table) name) [
      | Less ↦ λ e. record {
        before = [];
        after = row ∷ table;
        is = refl;
        put_is = λ new.
            ap (λ o. by_order o ((name, new) ∷ row ∷ table) ((row.0, new) ∷ table) (row ∷ with_cell_pool table name new)) e;
      }
      | Equal ↦ λ e. absurd (some_none row.1 (sym (ap (λ o. cond (is_eq o) (Some row.1) (cell_pool_in table name)) e) ∙ none))
      | Greater ↦ λ e.
          let rest = gap_of table name (sym (ap (λ o. cond (is_eq o) (Some row.1) (cell_pool_in table name)) e) ∙ none) in
          record {
            before = row ∷ rest.before;
            after = rest.after;
            is = ap (λ t. row ∷ t) rest.is;
            put_is = λ new.
                ap (λ o. by_order o ((name, new) ∷ row ∷ table) ((row.0, new) ∷ table) (row ∷ with_cell_pool table name new)) e
                ∙ ap (λ t. row ∷ t) (rest.put_is new);
          }
    ] refl

-- the name then has the new cell pool
pub put_found : (table : CellPools) (name : List ℕ) (pool : CellPool) → cell_pool_in (with_cell_pool table name pool) name ≡ Some pool
put_found table name pool =
    find-put order nat_list_cmp_total name name pool table
    ∙ ap (λ o. cond (is_eq o) (Some pool) (cell_pool_in table name)) (tied_itself nat_list_cmp_total name)

-- two names that aren't one
pub apart_names : (a b : List ℕ) → a ≢ b → eq_by_cmp order a b ≡ false
apart_names a b other =
    elim (order a b) as (λ o. order a b ≡ o → is_eq o ≡ false) [
      | Less ↦ λ e. refl
      | Equal ↦ λ e. absurd (other (same_name a b e))
      | Greater ↦ λ e. refl
    ] refl

pub put_others : (table : CellPools) (name other : List ℕ) (pool : CellPool) → other ≢ name →
    cell_pool_in (with_cell_pool table name pool) other ≡ cell_pool_in table other
put_others table name other pool apart =
    find-put order nat_list_cmp_total other name pool table
    ∙ cond-false (eq_by_cmp order other name) (Some pool) (cell_pool_in table other) (apart_names other name apart)

alike : (name x q : List ℕ) → order q x ≡ Equal → not (eq_by_cmp order name x) ≡ not (eq_by_cmp order name q)
alike name x q e = ap (λ k. not (eq_by_cmp order name k)) (sym (same_name q x e))

pub without_found : (table : CellPools) (name : List ℕ) → cell_pool_in (without_cell_pool table name) name ≡ None
without_found table name =
    find-where_key order (λ k. not (eq_by_cmp order name k)) name (λ x e. alike name x name e) table
    ∙ ap (λ o. cond (not (is_eq o)) (cell_pool_in table name) None) (tied_itself nat_list_cmp_total name)

pub without_others : (table : CellPools) (name other : List ℕ) → other ≢ name →
    cell_pool_in (without_cell_pool table name) other ≡ cell_pool_in table other
without_others table name other apart =
    find-where_key order (λ k. not (eq_by_cmp order name k)) other (λ x e. alike name x other e) table
    ∙ cond-true (not (eq_by_cmp order name other)) (cell_pool_in table other) None
    (ap not (apart_names name other (λ e. apart (sym e))))

up : (b : Bool) → b ≡ true → T b
up b e = subst T (sym e) tt

pub put_ascends : (table : CellPools) (name : List ℕ) (pool : CellPool) → are_ascending table ≡ true →
    are_ascending (with_cell_pool table name pool) ≡ true
put_ascends table name pool e = tested _ (is_sorted-put order nat_list_cmp_total name pool table (up _ e))

pub without_ascends : (table : CellPools) (name : List ℕ) → are_ascending table ≡ true → are_ascending (without_cell_pool table name) ≡ true
without_ascends table name e = tested _ (is_sorted-where_key order (λ k. not (eq_by_cmp order name k)) table (up _ e))
