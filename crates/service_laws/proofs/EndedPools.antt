-- The end of tasks leaves cell pools sound.
use Rattle.std.proofs.Common.{◌≡◌, ◌⊎◌, ℕ, ◌+◌, ◌*◌, ◌/◌, ◌≤◌, Bool, true, false, not, None, List, map, ◌∙◌, ap, arith}
use Rattle.std.proofs.lemmas.Bool.{cond-false, and_from, not-true}
use Rattle.std.proofs.lemmas.List.Elements.{All-filter, filter_passes}
use Rattle.vsm_model.specs.declared.Subpool.{Subpool}
use Rattle.vsm_model.specs.Search.{holds}
use Rattle.vsm_model.specs.CellPools.{CellPool, CellExtent, extent_doublewords}
use Rattle.vsm_model.specs.State.{State}
use Rattle.vsm_model.specs.Ending.{without_tasks}
use Rattle.vsm_model.specs.WellFormed.{IsInSubpool, PoolIsSound, CellPoolsAreSound}
use Rattle.vsm_model.proofs.Registered.{pool_still}
use Rattle.service_laws.proofs.TaskTables.{apart_left, ascending_left, fewer_left}

module _ (s : State) (these : ℕ → Bool) where
  abbrev stays : CellPool → Bool
  stays pool = not (these pool.subpool.owner)

  abbrev theirs : Subpool → Bool
  theirs p = these p.owner

  extent_stays : (pool : CellPool) → these pool.subpool.owner ≡ false → (x : CellExtent) → IsInSubpool s pool x → IsInSubpool (without_tasks s these) pool x
  extent_stays pool others x w = record {
    has_cells = w.has_cells;
    on_doubleword = w.on_doubleword;
    is_taken = λ d in_it.
        and_from (not (holds theirs (s.pages (d / 512)))) (s.taken d) (ap (λ o. not (holds theirs o)) (w.in_pages d in_it) ∙ ap not others) (w.is_taken d in_it);
    in_pages = λ d in_it.
        cond-false (holds theirs (s.pages (d / 512))) None (s.pages (d / 512)) (ap (holds theirs) (w.in_pages d in_it) ∙ others) ∙ w.in_pages d in_it;
  }

  pool_stays : (pool : CellPool) → stays pool ≡ true → PoolIsSound s pool → PoolIsSound (without_tasks s these) pool
  pool_stays pool passes w =
      pool_still s (without_tasks s these) pool
      (λ there. and_from (not (these pool.subpool.owner)) (s.subpools pool.subpool.number pool.subpool.owner) passes there)
      (extent_stays pool (not-true (these pool.subpool.owner) passes)) w

  pub cell_pools_sound : CellPoolsAreSound s → CellPoolsAreSound (without_tasks s these)
  cell_pools_sound w = record {
    ascending = ascending_left stays s.cell_pools w.ascending;
    few = let fewer = fewer_left stays s.cell_pools in let few = w.few in omega (arith, fewer, few);
    each = λ k d below. pool_stays _
        (filter_passes (λ (row : List ℕ × CellPool). stays row.1) s.cell_pools k d below)
        (All-filter (λ (row : List ℕ × CellPool). stays row.1) (λ (row : List ℕ × CellPool). PoolIsSound s row.1) s.cell_pools w.each k d below);
    apart = apart_left (λ (x y : ℕ × ℕ). (x.1 ≤ y.0) ⊎ (y.1 ≤ x.0))
        (λ (row : List ℕ × CellPool). map (λ (x : CellExtent). (x.address, x.address + 8 * extent_doublewords row.1 x.cells)) row.1.extents)
        (λ (row : List ℕ × CellPool). stays row.1) s.cell_pools w.apart;
  }
