-- A cell pool that is found by its name, and whose subpool the current task sees, on the plain machine.
use Rattle.std.proofs.Common.{◌≡◌, ℕ, ◌≤◌, List, Option, Some, None, IfSome, refl, sym, ap, ◌∙◌, subst, true≢false}
use Rattle.std.specs.Prelude.{IsSome, unwrap_or}
use Rattle.std.proofs.Math.Bool.{Bool-set}
use Rattle.std.proofs.Math.Logic.{∥∥₁_elim}
use Rattle.vsm_model.specs.declared.limits.Settings.{Settings}
use Rattle.vsm_model.specs.Cells.{no_pool, pool_of}
use Rattle.vsm_model.specs.CellPools.{CellPool}
use Rattle.vsm_model.specs.WellFormed.{PoolIsSound}
use Rattle.service_laws.proofs.CellLists.{cell_bounds}
use Rattle.service_laws.proofs.Pools.{sound_of}
use Rattle.cell_pool.specs.Pools.{Pool}
use Rattle.storage_changes.specs.PoolTable.{cell_pool_of}
use Rattle.storage_changes.specs.Meaning.{model_of, IsSound}
use Rattle.storage_changes.specs.State.{StorageState}
use Rattle.cell_plans.specs.Seen.{IsSeen}

-- what holds of a value that exists
pub fact_of : (P : Pool → Type 0) (o : Option Pool) (p : Pool) → o ≡ Some p → IfSome o P → P p
fact_of P o p e h = let Q : Option Pool → Type 0 = λ o. IfSome o P in subst Q e h

pub some_there : (o : Option Pool) → IsSome o → (p : Pool) × (o ≡ Some p)
some_there None there = absurd (true≢false (sym there))
some_there (Some p) there = (p, refl)

-- What is seen is the plain machine's cell pool of the name,
module _ (m : StorageState) (name : List ℕ) (id : ℕ) (p : Pool) (seen : IsSeen m name id p) where
  pub pool_is : pool_of (model_of m) name ≡ cell_pool_of p
  pool_is = ap (λ (o : Option CellPool). unwrap_or o no_pool) seen.row

  pub under_its_id : m.subpools.cells p.id ≡ Some p
  under_its_id = ap m.subpools.cells seen.id_is ∙ seen.there

  pub is_sound : (settings : Settings) → IsSound settings m → PoolIsSound (model_of m) (cell_pool_of p)
  is_sound settings sound = sound_of (model_of m) name (cell_pool_of p) sound.well_formed.cell_pools seen.row

  -- whose further extents have bounds.
  pub bounds : (settings : Settings) → ∥ IsSound settings m ∥₁ →
      (4 ≤ p.settings.size) × (p.settings.size ≤ 4096) × (1 ≤ p.settings.secondary) × (p.settings.secondary ≤ 4096)
  bounds settings sound =
      cell_bounds p.settings.size p.settings.secondary
      (∥∥₁_elim sound (Bool-set _ _) (λ h. (is_sound settings h).bounds.1))
