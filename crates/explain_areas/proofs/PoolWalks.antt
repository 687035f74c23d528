-- Cell pools that are walked over.
use Rattle.std.proofs.Common.{◌≡◌, ◌∷◌, ◌<◌, ℕ, List, Option, Some, None, IsSome, true, false, length, sym, ap, ◌∙◌}
use Rattle.std.specs.Prelude.{IfSome}
use Rattle.vsm_model.specs.CellPools.{CellPools}
use Rattle.cell_pool.specs.Pools.{Pool}
use Rattle.storage_changes.specs.PoolTable.{cell_pool_of}
use Rattle.storage_changes.specs.TableOrder.{rows_behind}
use Rattle.explain_who.proofs.CellPools.{shorter}

pub fewer_rows : (table : CellPools) (low : Option (List ℕ)) (name : List ℕ) (o : Option Pool) → IsSome o
    → IfSome o (λ p. rows_behind table low ≡ (p.name, cell_pool_of p) ∷ rows_behind table (Some p.name)) → IfSome o (λ p. name ≡ p.name)
    → length (rows_behind table (Some name)) < length (rows_behind table low)
fewer_rows table low name None there next named = absurd (let no : false ≡ true = there in cc)
fewer_rows table low name (Some p) there next named =
    shorter (rows_behind table low) (rows_behind table (Some name)) (p.name, cell_pool_of p)
    (next ∙ ap (λ (n : List ℕ). (p.name, cell_pool_of p) ∷ rows_behind table (Some n)) (sym named))
