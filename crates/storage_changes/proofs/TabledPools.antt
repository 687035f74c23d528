-- The table of cell pools is in order, and returns for each name the cell pool that has it; there is one such table.
use Rattle.std.proofs.Common.{◌≡◌, ◌≢◌, ℕ, zero, suc, ◌^◌, ◌<◌, true, false, Option, Some, None, List, ◌==◌, refl, sym, ◌∙◌, ap, arith, inl, inr, ◌⊎◌, true≢false}
use Rattle.std.proofs.lemmas.Bool.{cases_Bool}
use Rattle.std.proofs.lemmas.Bool.Decides.{nat_tests}
use Rattle.std.specs.Ordering.{eq_by_cmp}
use Rattle.vsm_model.specs.CellPools.{CellPools, cell_pool_in, with_cell_pool, are_ascending}
use Rattle.vsm_model.proofs.Tables.{tables_are_equal}
use Rattle.cell_pool.specs.Pools.{Pool}
use Rattle.storage_changes.specs.NamedPools.{AreNamed}
use Rattle.storage_changes.specs.PoolTable.{cell_pool_of, with_row, cell_pools_below, cell_pools_in}
use Rattle.service_laws.proofs.Options.{some_none, same_some}
use Rattle.storage_changes.proofs.PoolRows.{by_name, same_name, own_name, put_found, put_others, put_ascends}

-- Two numbers that are equal, and the test of it.
pub same_number : (a b : ℕ) → (a == b) ≡ true → a ≡ b
same_number a b e = grind (arith, nat_tests)

pub number_is : (a b : ℕ) → a ≡ b → (a == b) ≡ true
number_is a b e = grind (arith, nat_tests)

pub number_apart : (a b : ℕ) → a ≢ b → (a == b) ≡ false
number_apart a b apart =
    elim (cases_Bool (a == b)) [ inl is ↦ absurd (apart (same_number a b is)) | inr is ↦ is ]

-- A cell pool of the name, of an id below a number.
pub record Has (pools : ℕ → Option Pool) (n : ℕ) (name : List ℕ) : Type 0 where
  pub id : ℕ
  pub p : Pool
  pub below : id < n
  pub there : pools id ≡ Some p
  pub named : p.name ≡ name

later : (pools : ℕ → Option Pool) (n : ℕ) (name : List ℕ) → Has pools n name → Has pools (suc n) name
later pools n name h = record { id = h.id; p = h.p; below = omega (arith, h.below); there = h.there; named = h.named }

-- A name that such a cell pool has, or none.
pub has_or_not : (pools : ℕ → Option Pool) (n : ℕ) (name : List ℕ) → Has pools n name ⊎ (Has pools n name → ⊥)
has_or_not pools zero name = inr (λ h. absurd (omega (arith, h.below)))
has_or_not pools (suc n) name =
    elim (has_or_not pools n name) [
      | inl h ↦ inl (later pools n name h)
      | inr none ↦ last (pools n) refl none
    ] where
      earlier : (h : Has pools (suc n) name) → h.id ≢ n → Has pools n name
      earlier h apart = record { id = h.id; p = h.p; below = omega (arith, h.below, apart); there = h.there; named = h.named }

      last : (o : Option Pool) → pools n ≡ o → (Has pools n name → ⊥) → Has pools (suc n) name ⊎ (Has pools (suc n) name → ⊥)
      last None e none = inr (λ h. none (earlier h (λ is. some_none h.p (sym h.there ∙ ap pools is ∙ e))))
      last (Some q) e none =
          elim (cases_Bool (eq_by_cmp by_name q.name name)) [
            | inl is ↦ inl (record { id = n; p = q; below = omega arith; there = e; named = same_name q.name name is })
            | inr other ↦ inr (λ h. none (earlier h (λ is. true≢false (
                sym (own_name name) ∙ ap (λ k. eq_by_cmp by_name k name) (sym h.named
                ∙ ap (λ p. p.name) (same_some h.p q (sym h.there ∙ ap pools is ∙ e))) ∙ other))))
          ]

-- A table in order, in which each cell pool is found by its name, and nothing else is.
pub record IsTableOf (pools : ℕ → Option Pool) (n : ℕ) (table : CellPools) : Type 0 where
  pub ascends : are_ascending table ≡ true
  pub found : (name : List ℕ) (h : Has pools n name) → cell_pool_in table name ≡ Some (cell_pool_of h.p)
  pub none : (name : List ℕ) → (Has pools n name → ⊥) → cell_pool_in table name ≡ None

-- There is one such table.
one_table : (pools : ℕ → Option Pool) (n : ℕ) (table other : CellPools) → IsTableOf pools n table → IsTableOf pools n other → table ≡ other
one_table pools n table other is also =
    tables_are_equal table other is.ascends also.ascends (λ name. elim (has_or_not pools n name) [
      | inl h ↦ is.found name h ∙ sym (also.found name h)
      | inr none ↦ is.none name none ∙ sym (also.none name none)
    ])

below_ascends : (pools : ℕ → Option Pool) (n : ℕ) → are_ascending (cell_pools_below pools n) ≡ true
below_ascends pools zero = refl
below_ascends pools (suc n) =
    elim (pools n) as (λ o. are_ascending (with_row (cell_pools_below pools n) o) ≡ true) [
      | None ↦ below_ascends pools n
      | Some p ↦ put_ascends (cell_pools_below pools n) p.name (cell_pool_of p) (below_ascends pools n)
    ]

-- Each name is that of one cell pool.
pub record AreSingle (pools : ℕ → Option Pool) : Type 0 where
  pub once : (i j : ℕ) (p q : Pool) → pools i ≡ Some p → pools j ≡ Some q → p.name ≡ q.name → i ≡ j

-- What the table has under a name, with another cell pool.
module _ (pools : ℕ → Option Pool) (n : ℕ) (single : AreSingle pools) (name : List ℕ) where
  abbrev rows : CellPools
  rows = cell_pools_below pools n

  abbrev has_earlier : (h : Has pools (suc n) name) → h.id ≢ n → Has pools n name
  has_earlier h apart = record { id = h.id; p = h.p; below = omega (arith, h.below, apart); there = h.there; named = h.named }

  found_with : (h : Has pools (suc n) name) → ((g : Has pools n name) → cell_pool_in rows name ≡ Some (cell_pool_of g.p)) →
      (o : Option Pool) → pools n ≡ o → cell_pool_in (with_row rows o) name ≡ Some (cell_pool_of h.p)
  found_with h earlier None e = earlier (has_earlier h (λ is. some_none h.p (sym h.there ∙ ap pools is ∙ e)))
  found_with h earlier (Some q) e =
      elim (cases_Bool (h.id == n)) [
        | inl is ↦
            let same : q ≡ h.p = same_some q h.p (sym e ∙ ap pools (sym (same_number h.id n is)) ∙ h.there) in
            ap (cell_pool_in (with_cell_pool rows q.name (cell_pool_of q))) (sym (ap (λ p. p.name) same ∙ h.named))
            ∙ put_found rows q.name (cell_pool_of q) ∙ ap (λ p. Some (cell_pool_of p)) same
        | inr other ↦
            let apart : h.id ≢ n = (λ is. true≢false (sym (number_is h.id n is) ∙ other)) in
            put_others rows q.name name (cell_pool_of q) (λ is. apart (single.once h.id n h.p q h.there e (h.named ∙ is)))
            ∙ earlier (has_earlier h apart)
      ]

  none_with : (Has pools (suc n) name → ⊥) → cell_pool_in rows name ≡ None →
      (o : Option Pool) → pools n ≡ o → cell_pool_in (with_row rows o) name ≡ None
  none_with lacks earlier None e = earlier
  none_with lacks earlier (Some q) e =
      put_others rows q.name name (cell_pool_of q)
      (λ is. lacks (record { id = n; p = q; below = omega arith; there = e; named = sym is })) ∙ earlier

below_found : (pools : ℕ → Option Pool) (n : ℕ) → AreSingle pools → (name : List ℕ) (h : Has pools n name) →
    cell_pool_in (cell_pools_below pools n) name ≡ Some (cell_pool_of h.p)
below_found pools zero single name h = absurd (omega (arith, h.below))
below_found pools (suc n) single name h = found_with pools n single name h (below_found pools n single name) (pools n) refl

below_none : (pools : ℕ → Option Pool) (n : ℕ) → AreSingle pools → (name : List ℕ) → (Has pools n name → ⊥) → cell_pool_in (cell_pools_below pools n) name ≡ None
below_none pools zero single name lacks = refl
below_none pools (suc n) single name lacks =
    none_with pools n single name lacks (below_none pools n single name (λ h. lacks (later pools n name h))) (pools n) refl

below_is_table : (pools : ℕ → Option Pool) (n : ℕ) → AreSingle pools → IsTableOf pools n (cell_pools_below pools n)
below_is_table pools n single =
    record { ascends = below_ascends pools n; found = below_found pools n single; none = below_none pools n single }

-- All of them.
pub in_ascends : (pools : ℕ → Option Pool) → are_ascending (cell_pools_in pools) ≡ true
unfolding cell_pools_in
in_ascends pools = below_ascends pools (2 ^ 32)

pub in_is_table : (pools : ℕ → Option Pool) → AreSingle pools → IsTableOf pools (2 ^ 32) (cell_pools_in pools)
unfolding cell_pools_in
in_is_table pools single = below_is_table pools (2 ^ 32) single

pub in_is : (pools : ℕ → Option Pool) (table : CellPools) → AreSingle pools → IsTableOf pools (2 ^ 32) table → cell_pools_in pools ≡ table
in_is pools table single is = one_table pools (2 ^ 32) (cell_pools_in pools) table (in_is_table pools single) is

-- Cell pools that are named.
pub single_of : (pools : ℕ → Option Pool) → AreNamed pools → AreSingle pools
single_of pools named = record { once = named.once }

pub table_of : (pools : ℕ → Option Pool) → AreNamed pools → IsTableOf pools (2 ^ 32) (cell_pools_in pools)
table_of pools named = in_is_table pools (single_of pools named)

abbrev pub has : (pools : ℕ → Option Pool) → AreNamed pools → (id : ℕ) (p : Pool) → pools id ≡ Some p → Has pools (2 ^ 32) p.name
has pools named id p e = record { id = id; p = p; below = named.high id p e; there = e; named = refl }
