-- How many rows the table has.
use Rattle.std.proofs.Common.{◌≡◌, ◌≢◌, ℕ, false, ◌==◌, Option, List, [], ◌∷◌, length, map, All, AllPairs, sym, ◌∙◌, arith}
use Rattle.std.proofs.lemmas.Bool.{eq-eqb, false_from_ne_true, both_ways, or_left, or_right}
use Rattle.std.proofs.lemmas.List.Elements.{All-cons, All-nil}
use Rattle.std.proofs.lemmas.List.Kept.{AllPairs-cons}
use Rattle.vsm_elements.specs.Store.{Store, among, Distinct}
use Rattle.cell_pool.specs.declared.pools.CellPools.{CellPools}
use Rattle.cell_pool.specs.CellPools.{pools, by_id}
use Rattle.cell_pool.specs.Laws.{AreListed}
use Rattle.cell_pool.specs.Pools.{Pool}
use Rattle.storage_changes.specs.TableLaws.{RowsAreCounted}
use Rattle.storage_changes.specs.NamedPools.{AreNamed}
use Rattle.storage_changes.specs.PoolTable.{cell_pools_in}

-- Cell pools with distinct ids are apart.
others : (id : ℕ) (list : List Pool) → among id (map (λ p. p.id) list) ≡ false → All (λ p. id ≢ p.id) list
others id [] e = All-nil (λ (p : Pool). id ≢ p.id)
others id (p ∷ list) e =
    All-cons (λ (p : Pool). id ≢ p.id) p list (λ is. both_ways _ e (or_left (id == p.id) (among id (map (λ p. p.id) list)) (eq-eqb id p.id is)))
    (others id list (false_from_ne_true (among id (map (λ p. p.id) list)) (λ later. both_ways _ e (or_right (id == p.id) (among id (map (λ p. p.id) list)) later))))

apart : (list : List Pool) → Distinct (map (λ p. p.id) list) → AllPairs (λ p q. p.id ≢ q.id) list
apart [] h = λ i j d less below. absurd (omega (arith, below))
apart (p ∷ list) h = AllPairs-cons (λ (p q : Pool). p.id ≢ q.id) p list (others p.id list h.0) (apart list h.1)

-- The table has as many rows as there are cell pools.
pub are_counted : (s : Store) (q : CellPools) (cells : ℕ → Option Pool) → RowsAreCounted → AreListed s q → AreNamed cells → ((id : ℕ) → by_id s q id ≡ cells id) →
    length (pools s q) ≡ length (cell_pools_in cells)
are_counted s q cells counted listed named same =
    sym (counted cells (pools s q) named (λ id. sym (same id) ∙ listed.ids id) (apart (pools s q) listed.distinct))
