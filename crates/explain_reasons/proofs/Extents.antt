-- The first extent that overlaps an area.
use Rattle.std.proofs.Common.{◌≡◌, ℕ, Bool, true, false, if◌then◌else◌, List, ◌∷◌, map, Option, Some, None, sym, ap, ◌∙◌}
use Rattle.cell_pool.specs.declared.settings.Extent.{Extent}
use Rattle.cell_pool.specs.Pools.{Pool, overlaps}
use Rattle.storage_changes.specs.PoolTable.{cell_pool_of, extent_of}
use Rattle.vsm_model.specs.CellPools.{CellExtent, CellPools}
use Rattle.explain_reasons.specs.Cells.{extent_in, extent_or, extent_text, overlap_text}

module _ (p : Pool) (address len : ℕ) where
  -- among these extents of a cell pool
  abbrev pub first_of : List Extent → Option CellExtent
  first_of xs = extent_in address len (cell_pool_of p) (map extent_of xs)

  pub extent_passed : (x : Extent) (left rest : List Extent) → left ≡ x ∷ rest → overlaps p.settings.size address len x ≡ false → first_of left ≡ first_of rest
  extent_passed x left rest next out = ap first_of next ∙ ap (λ (b : Bool). if b then Some (extent_of x) else first_of rest) out

  pub extent_found : (x : Extent) (left rest : List Extent) → left ≡ x ∷ rest → overlaps p.settings.size address len x ≡ true → first_of left ≡ Some (extent_of x)
  extent_found x left rest next met = ap first_of next ∙ ap (λ (b : Bool). if b then Some (extent_of x) else first_of rest) met

  -- a row without one says nothing, and another one says which
  pub row_passed : None ≡ first_of p.extents → (rows : CellPools) → overlap_text address len ((p.name, cell_pool_of p) ∷ rows) ≡ overlap_text address len rows
  row_passed none rows = ap (λ (o : Option CellExtent). extent_or p.name (cell_pool_of p) o (overlap_text address len rows)) (sym none)

  pub row_found : (x : Extent) → Some (extent_of x) ≡ first_of p.extents → (rows : CellPools)
      → overlap_text address len ((p.name, cell_pool_of p) ∷ rows) ≡ extent_text p.name p.settings.size (extent_of x)
  row_found x some rows = ap (λ (o : Option CellExtent). extent_or p.name (cell_pool_of p) o (overlap_text address len rows)) (sym some)
