-- Cell pools in the order of their names, walked over.
use Rattle.std.proofs.Common.{◌≡◌, ℕ, ◌<◌, true, false, List, [], ◌∷◌, Bor, Option, Some, None, IsSome, length, refl, sym, ap, ◌∙◌, subst, arith}
use Rattle.std.specs.Prelude.{IfSome, option_copied, option_map}
use Rattle.arrayvec.specs.ArrayString.{ArrayString}
use Rattle.cell_pool.specs.Pools.{Pool}
use Rattle.storage_changes.specs.PoolTable.{cell_pool_of}
use Rattle.storage_changes.specs.TableOrder.{rows_behind}
use Rattle.vsm_model.specs.CellPools.{CellPools}

-- what holds of a cell pool, if there is one
pub each : (o : Option Pool) (Q : Pool → Type 0) → ((p : Pool) → o ≡ Some p → Q p) → IfSome o Q
each None Q f = tt
each (Some p) Q f = f p refl

pub fact_of : (P : Pool → Type 0) (o : Option Pool) (p : Pool) → o ≡ Some p → IfSome o P → P p
fact_of P o p e h = subst (λ (z : Option Pool). IfSome z P) e h

pub some_pool : (o : Option Pool) → IsSome o → (p : Pool) × (o ≡ Some p)
some_pool None there = absurd (let no : false ≡ true = there in cc)
some_pool (Some p) there = (p, refl)

pub shorter : {A : Type 0} (xs ys : List A) (x : A) → xs ≡ x ∷ ys → length ys < length xs
shorter xs ys x e = omega (arith, ap length e)

-- all rows come after no name
pub all_rows : (table : CellPools) → rows_behind table None ≡ table
all_rows [] = refl
all_rows (row ∷ table) = ap (λ (z : CellPools). row ∷ z) (all_rows table)

-- the name after which the walk is
pub low_is : (o : Option (Bor ArrayString)) (p : Option ArrayString) → option_copied o ≡ p
    → option_map (λ (n : Bor ArrayString). n.now.bytes) o ≡ option_map (λ (n : ArrayString). n.bytes) p
low_is None p e = ap (option_map (λ (n : ArrayString). n.bytes)) e
low_is (Some r) p e = ap (option_map (λ (n : ArrayString). n.bytes)) e

-- Of the rows after a name the first is that of the cell pool that comes next.
module _ (table : CellPools) (low : Option (List ℕ)) where
  abbrev pub IsNextRow : Pool → Type 0
  IsNextRow p = rows_behind table low ≡ (p.name, cell_pool_of p) ∷ rows_behind table (Some p.name)

  after : (p : Pool) (name : List ℕ) → IsNextRow p → name ≡ p.name → rows_behind table low ≡ (p.name, cell_pool_of p) ∷ rows_behind table (Some name)
  after p name next named = next ∙ ap (λ (n : List ℕ). (p.name, cell_pool_of p) ∷ rows_behind table (Some n)) (sym named)

  -- what doesn't look at that row looks at those after it
  pub pool_passed : {X : Type 0} (F : CellPools → X) (o : Option Pool) (name : List ℕ) → IsSome o → IfSome o IsNextRow → IfSome o (λ p. name ≡ p.name)
      → IfSome o (λ p. (rows : CellPools) → F ((p.name, cell_pool_of p) ∷ rows) ≡ F rows) → F (rows_behind table low) ≡ F (rows_behind table (Some name))
  pool_passed F None name there next named same = absurd (let no : false ≡ true = there in cc)
  pool_passed F (Some p) name there next named same = ap F (after p name next named) ∙ same (rows_behind table (Some name))

  pub fewer_rows : (o : Option Pool) (name : List ℕ) → IsSome o → IfSome o IsNextRow → IfSome o (λ p. name ≡ p.name)
      → length (rows_behind table (Some name)) < length (rows_behind table low)
  fewer_rows None name there next named = absurd (let no : false ≡ true = there in cc)
  fewer_rows (Some p) name there next named =
      shorter (rows_behind table low) (rows_behind table (Some name)) (p.name, cell_pool_of p) (after p name next named)
