-- The cells of a cell pool, and those in use, are the plain machine's.
use Rattle.std.proofs.Common.{◌≡◌, ℕ, zero, suc, ◌+◌, ◌*◌, Bool, true, false, not, ◌&&◌, ◌||◌, ◌==◌, List, [], ◌∷◌, ◌++◌, map, refl, sym, ap, ◌∙◌, arith}
use Rattle.std.specs.Prelude.{flat_map}
use Rattle.std.specs.List.{range_with_len}
use Rattle.std.proofs.Math.Nat.{add-mul}
use Rattle.std.proofs.lemmas.Bool.{eq-eqb, eqb-true, false_from_ne_true}
use Rattle.vsm_elements.specs.Store.{among}
use Rattle.vsm_model.specs.Cells.{is_in_use}
use Rattle.vsm_model.specs.CellPools.{extent_cells}
use Rattle.vsm_model.specs.CellPools as model
use Rattle.vsm_model.specs.Search.{is_in}
use Rattle.cell_pool.specs.declared.settings.Extent.{Extent}
use Rattle.cell_pool.specs.Pools.{Pool, cells_from, cells_of, uses}
use Rattle.storage_changes.specs.PoolTable.{cell_pool_of, extent_of}

cells_on : (size start n count : ℕ) → map (λ k. start + k * size) (range_with_len n count) ≡ model.cells_from size (start + n * size) count
cells_on size start n zero = refl
cells_on size start n (suc count) =
    let next = add-mul n 1 size in
    let at : start + (n + 1) * size ≡ start + n * size + size = omega (arith, next) in
    ap (λ z. (start + n * size) ∷ z) (cells_on size start (n + 1) count ∙ ap (λ first. model.cells_from size first count) at)

cells_same : (size start count : ℕ) → cells_from size start count ≡ model.cells_from size start count
unfolding cells_from
cells_same size start count =
    let at : start + 0 * size ≡ start = omega arith in
    cells_on size start 0 count ∙ ap (λ first. model.cells_from size first count) at

all_same : (size : ℕ) (xs : List Extent) → flat_map (extent_cells size) (map extent_of xs) ≡ cells_of size xs
all_same size [] = refl
all_same size (x ∷ xs) = λ i. sym (cells_same size x.start x.count) i ++ all_same size xs i

either_way : (m n : ℕ) → (m == n) ≡ (n == m)
either_way m n = go (n == m) refl where
  go : (b : Bool) → (n == m) ≡ b → (m == n) ≡ b
  go true e = eq-eqb m n (sym (eqb-true n m e))
  go false e = false_from_ne_true (m == n) (λ f. no (sym e ∙ eq-eqb n m (sym (eqb-true m n f)))) where
    no : false ≡ true → ⊥
    no e = cc

in_same : (xs : List ℕ) (n : ℕ) → is_in xs n ≡ among n xs
in_same [] n = refl
in_same (x ∷ xs) n = λ i. either_way x n i || in_same xs n i

pub uses_same : (p : Pool) (cell : ℕ) → is_in_use (cell_pool_of p) cell ≡ uses p cell
uses_same p cell =
    (λ i. is_in (all_same p.settings.size p.extents i) cell && not (is_in p.cells cell))
    ∙ (λ i. in_same (cells_of p.settings.size p.extents) cell i && not (in_same p.cells cell i))
