-- Whether an area has a byte in common with an extent of a cell pool.
use Rattle.std.proofs.Common.{◌≡◌, ℕ, true, false, Option, sym, ◌∙◌, true≢false}
use Rattle.std.proofs.lemmas.Bool.{false_from_ne_true}
use Rattle.std.proofs.Math.Logic.{∥∥₁_elim}
use Rattle.std.proofs.Math.Bool.{Bool-set}
use Rattle.vsm_elements.specs.Store.{Store}
use Rattle.cell_pool.specs.declared.pools.CellPools.{CellPools}
use Rattle.cell_pool.specs.CellPools.{pool, by_id}
use Rattle.cell_pool.specs.Laws.{AreOne}
use Rattle.cell_pool.specs.Pools.{Pool, Meets}
use Rattle.storage_changes.specs.TableLaws.{OverlapsAreMet, overlaps_table}
use Rattle.storage_changes.specs.NamedPools.{AreNamed}
use Rattle.storage_changes.specs.PoolTable.{cell_pools_in}

-- Of well-formed cell pools: those that are found by their ids are those that are found by their names.
module _ (s : Store) (q : CellPools) (pools : ℕ → Option Pool) (met : OverlapsAreMet) (one : AreOne s q) (named : AreNamed pools)
    (same : (id : ℕ) → by_id s q id ≡ pools id) (address length : ℕ) where
  pub meets_one : Meets (pool s q) address length → overlaps_table (cell_pools_in pools) address length ≡ true
  meets_one (name, p, at, is) = (met pools address length named).1 ∣ (p.id, p, sym (same p.id) ∙ (one.names name p at).1, is) ∣₁

  pub meets_none : (Meets (pool s q) address length → ⊥) → overlaps_table (cell_pools_in pools) address length ≡ false
  meets_none none =
      false_from_ne_true (overlaps_table (cell_pools_in pools) address length)
      (λ e. true≢false (∥∥₁_elim ((met pools address length named).0 e) (Bool-set _ _)
      (λ found. let (id, p, at, is) = found in absurd (none (p.name, p, (one.ids id p (same id ∙ at)).1, is)))))
