-- Tables of cell pools in order: what is found if a row is put or removed, and rows that pass a test.
use Rattle.std.proofs.Common.{◌≡◌, ◌≢◌, ℕ, suc, ◌+◌, Ordering, Less, Equal, Greater, Bool, true, false, not, ◌||◌, cond, T, Some, None, is_some, List, [], ◌∷◌, length, refl, sym, ◌∙◌, ap, subst, true≢false, is_lt, is_eq, inl, inr, add-one}
use Rattle.std.specs.Ordering.{nat_cmp, eq_by_cmp}
use Rattle.std.specs.List.{list_any}
use Rattle.std.specs.Cmp.{tied_itself}
use Rattle.std.specs.Cmp.Lexicographic.{slice_cmp, nat_list_cmp_total}
use Rattle.std.specs.FinMap.{slice_cmp-IsAntisymmetric, nat_cmp-IsAntisymmetric}
use Rattle.std.specs.FinMap.Entries.{below_all, find-put, find-where_key, is_sorted-put, is_sorted-where_key, length-put}
use Rattle.std.proofs.lemmas.Bool.{cond-true, cond-false, and_parts, cases_Bool}
use Rattle.service_laws.proofs.Options.{some_none, same_some}
use Rattle.service_laws.proofs.TaskTables.{found_first, found_later}
use Rattle.vsm_model.specs.CellPools.{CellPool, CellPools, cell_pool_in, with_cell_pool, without_cell_pool, are_ascending}

-- names in byte order
abbrev pub by_name : List ℕ → List ℕ → Ordering
by_name = slice_cmp nat_cmp

tested : (b : Bool) → T b → b ≡ true
tested true h = refl
tested false h = absurd h

up : (b : Bool) → b ≡ true → T b
up b e = subst T (sym e) tt

tied : (o : Ordering) → is_eq o ≡ true → o ≡ Equal
tied Less e = absurd (true≢false (sym e))
tied Equal e = refl
tied Greater e = absurd (true≢false (sym e))

below_is_other : (o : Ordering) → is_lt o ≡ true → is_eq o ≡ false
below_is_other Less e = refl
below_is_other Equal e = absurd (true≢false (sym e))
below_is_other Greater e = refl

-- A name is tied only with itself.
pub same_name : (a b : List ℕ) → eq_by_cmp by_name a b ≡ true → a ≡ b
same_name a b e = slice_cmp-IsAntisymmetric nat_cmp-IsAntisymmetric a b (tied (by_name a b) e)

pub own_name : (a : List ℕ) → eq_by_cmp by_name a a ≡ true
own_name a = ap is_eq (tied_itself nat_list_cmp_total a)

pub other_name : (a b : List ℕ) → a ≢ b → eq_by_cmp by_name a b ≡ false
other_name a b apart =
    elim (cases_Bool (eq_by_cmp by_name a b)) [ inl is ↦ absurd (apart (same_name a b is)) | inr is ↦ is ]

-- a name that is below all names isn't found
pub none_below : (name : List ℕ) (rows : CellPools) → below_all by_name name rows ≡ true → cell_pool_in rows name ≡ None
none_below name [] e = refl
none_below name (row ∷ rows) e =
    let parts = and_parts (is_lt (by_name name row.0)) (below_all by_name name rows) e in
    found_later row rows name (below_is_other (by_name name row.0) parts.0) ∙ none_below name rows parts.1

-- A row that is put.
pub put_found : (table : CellPools) (name : List ℕ) (pool : CellPool) → cell_pool_in (with_cell_pool table name pool) name ≡ Some pool
put_found table name pool =
    find-put by_name nat_list_cmp_total name name pool table
    ∙ cond-true (eq_by_cmp by_name name name) (Some pool) (cell_pool_in table name) (own_name name)

pub put_others : (table : CellPools) (name other : List ℕ) (pool : CellPool) → other ≢ name →
    cell_pool_in (with_cell_pool table name pool) other ≡ cell_pool_in table other
put_others table name other pool apart =
    find-put by_name nat_list_cmp_total other name pool table
    ∙ cond-false (eq_by_cmp by_name other name) (Some pool) (cell_pool_in table other) (other_name other name apart)

pub put_ascends : (table : CellPools) (name : List ℕ) (pool : CellPool) → are_ascending table ≡ true →
    are_ascending (with_cell_pool table name pool) ≡ true
put_ascends table name pool e = tested _ (is_sorted-put by_name nat_list_cmp_total name pool table (up _ e))

pub put_counted : (table : CellPools) (name : List ℕ) (pool : CellPool) → are_ascending table ≡ true → cell_pool_in table name ≡ None →
    length (with_cell_pool table name pool) ≡ suc (length table)
put_counted table name pool e none =
    length-put by_name nat_list_cmp_total name pool table (up _ e)
    ∙ ap (λ found. cond (is_some found) (length table) (length table + 1)) none ∙ add-one (length table)

-- A row that is removed.
alike : (name x q : List ℕ) → by_name q x ≡ Equal → not (eq_by_cmp by_name name x) ≡ not (eq_by_cmp by_name name q)
alike name x q e = ap (λ k. not (eq_by_cmp by_name name k)) (sym (same_name q x (ap is_eq e)))

pub without_found : (table : CellPools) (name : List ℕ) → cell_pool_in (without_cell_pool table name) name ≡ None
without_found table name =
    find-where_key by_name (λ k. not (eq_by_cmp by_name name k)) name (λ x e. alike name x name e) table
    ∙ cond-false (not (eq_by_cmp by_name name name)) (cell_pool_in table name) None (ap not (own_name name))

pub without_others : (table : CellPools) (name other : List ℕ) → other ≢ name →
    cell_pool_in (without_cell_pool table name) other ≡ cell_pool_in table other
without_others table name other apart =
    find-where_key by_name (λ k. not (eq_by_cmp by_name name k)) other (λ x e. alike name x other e) table
    ∙ cond-true (not (eq_by_cmp by_name name other)) (cell_pool_in table other) None
    (ap not (other_name name other (λ e. apart (sym e))))

pub without_ascends : (table : CellPools) (name : List ℕ) → are_ascending table ≡ true → are_ascending (without_cell_pool table name) ≡ true
without_ascends table name e = tested _ (is_sorted-where_key by_name (λ k. not (eq_by_cmp by_name name k)) table (up _ e))

-- A test that some cell pool of the table passes, and one that is found and passes it.
module _ (test : CellPool → Bool) where
  pub any_found : (table : CellPools) → are_ascending table ≡ true → list_any (λ row. test row.1) table ≡ true →
      (name : List ℕ) × (pool : CellPool) × (cell_pool_in table name ≡ Some pool) × (test pool ≡ true)
  any_found [] ascends e = absurd (true≢false (sym e))
  any_found (row ∷ rows) ascends e =
      let parts = and_parts (below_all by_name row.0 rows) (are_ascending rows) ascends in
      elim (cases_Bool (test row.1)) [
        | inl is ↦ (row.0, row.1, found_first row rows row.0 (own_name row.0), is)
        | inr other ↦
            let rest = any_found rows parts.1 (sym (ap (λ b. b || list_any (λ row. test row.1) rows) other) ∙ e) in
            let found = elim (cases_Bool (eq_by_cmp by_name rest.0 row.0)) as (λ _. cell_pool_in (row ∷ rows) rest.0 ≡ Some rest.1) [
              | inl is ↦ absurd (some_none rest.1 (sym rest.2
                  ∙ none_below rest.0 rows (ap (λ n. below_all by_name n rows) (same_name rest.0 row.0 is) ∙ parts.0)))
              | inr apart ↦ found_later row rows rest.0 apart ∙ rest.2
            ] in
            (rest.0, rest.1, found, rest.3)
      ]

  pub found_any : (table : CellPools) (name : List ℕ) (pool : CellPool) → cell_pool_in table name ≡ Some pool → test pool ≡ true →
      list_any (λ row. test row.1) table ≡ true
  found_any [] name pool e passes = absurd (some_none pool (sym e))
  found_any (row ∷ rows) name pool e passes =
      elim (cases_Bool (eq_by_cmp by_name name row.0)) [
        | inl is ↦ ap (λ b. b || list_any (λ row. test row.1) rows)
            (ap test (same_some row.1 pool (sym (found_first row rows name is) ∙ e)) ∙ passes)
        | inr other ↦
            let rest = found_any rows name pool (sym (found_later row rows name other) ∙ e) passes in
            elim (test row.1) as (λ b. (b || list_any (λ row. test row.1) rows) ≡ true) [ true ↦ refl | false ↦ rest ]
      ]
