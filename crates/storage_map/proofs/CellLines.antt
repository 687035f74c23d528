-- The lines of cell pools in parts, and what remains of them after each cell pool.
use Rattle.std.proofs.Common.{◌≡◌, ℕ, ◌+◌, ◌*◌, ◌^◌, ◌<◌, true, false, List, [], ◌∷◌, ◌++◌, All, Option, Some, None, IsSome, Bor, length, flat_map, codes, refl, sym, ap, ◌∙◌, subst}
use Rattle.std.specs.Prelude.{IfSome, option_map, option_copied}
use Rattle.std.proofs.lemmas.List.Folds.{flat_map-map}
use Rattle.arrayvec.specs.ArrayString.{ArrayString}
use Rattle.cell_pool.specs.declared.settings.Extent.{Extent}
use Rattle.cell_pool.specs.declared.settings.CellSettings.{CellSettings}
use Rattle.cell_pool.specs.Pools.{Pool, rounded}
use Rattle.storage_changes.specs.TableOrder.{rows_behind}
use Rattle.storage_changes.specs.PoolTable.{extent_of, cell_pool_of}
use Rattle.storage_changes.specs.MapCells.{EndInRegions}
use Rattle.text_output.specs.Writing.{Puts}
use Rattle.text_output.specs.declared.writing.Gathered.{Gathered}
use Rattle.vsm_model.specs.CellPools.{CellPool, CellPools, CellExtent, extent_doublewords}
use Rattle.vsm_model.specs.Map.{area_line, cell_pool_lines}
use Rattle.storage_map.specs.Lines.{cell_extent_line, cell_pool_line, free_cell_line}
use Rattle.storage_map.proofs.Remaining.{Remains, remains_less, shorter}

-- the lines of a row of the table
abbrev pub row_lines : List ℕ × CellPool → List ℕ
row_lines row = cell_pool_lines row.0 row.1

-- if no name is given, all rows follow
pub all_rows : (table : CellPools) → table ≡ rows_behind table None
all_rows [] = refl
all_rows (row ∷ table) = ap (λ (z : CellPools). row ∷ z) (all_rows table)

-- the name after which the walk is
pub low_is : (o : Option (Bor ArrayString)) (p : Option ArrayString) → option_copied o ≡ p
    → option_map (λ (n : Bor ArrayString). n.now.bytes) o ≡ option_map (λ (n : ArrayString). n.bytes) p
low_is None p e = ap (option_map (λ (n : ArrayString). n.bytes)) e
low_is (Some r) p e = ap (option_map (λ (n : ArrayString). n.bytes)) e

-- the lines of a cell pool: its first one, and those of extents and free cells
abbrev pub lines_of : List ℕ → CellSettings → Option (List ℕ) → List Extent → List ℕ → List ℕ
lines_of name settings header extents cells =
    cell_pool_line name settings header ++ flat_map (cell_extent_line settings.size) extents ++ flat_map free_cell_line cells

lines_are : (p : Pool) → lines_of p.name p.settings p.header p.extents p.cells ≡ cell_pool_lines p.name (cell_pool_of p)
lines_are p =
    ap (λ (x : List ℕ). cell_pool_line p.name p.settings p.header ++ x ++ flat_map free_cell_line p.cells)
    (sym (flat_map-map (λ (x : CellExtent). area_line (codes "  EXTENT") x.address (8 * extent_doublewords (cell_pool_of p) x.cells)) extent_of p.extents))

-- What is put of a cell pool's parts is put of the cell pool.
pub pool_put : (old new : Option (List ℕ)) (a b : Gathered) (o : Option Pool) (name : List ℕ) (settings : CellSettings) (header : Option (List ℕ)) (extents : List Extent) (cells : List ℕ)
    → IfSome o (λ p. name ≡ p.name) → IfSome o (λ p. settings ≡ p.settings) → IfSome o (λ p. header ≡ p.header)
    → IfSome o (λ p. extents ≡ p.extents) → IfSome o (λ p. cells ≡ p.cells)
    → Puts old new a b (lines_of name settings header extents cells)
    → IfSome o (λ p. Puts old new a b (cell_pool_lines p.name (cell_pool_of p)))
pool_put old new a b None name settings header extents cells n s h x c put = tt
pool_put old new a b (Some p) name settings header extents cells n s h x c put =
    subst (Puts old new a b)
    (ap (λ (z : List ℕ). lines_of z settings header extents cells) n
    ∙ ap (λ (z : CellSettings). lines_of p.name z header extents cells) s
    ∙ ap (λ (z : Option (List ℕ)). lines_of p.name p.settings z extents cells) h
    ∙ ap (λ (z : List Extent). lines_of p.name p.settings p.header z cells) x
    ∙ ap (λ (z : List ℕ). lines_of p.name p.settings p.header p.extents z) c
    ∙ lines_are p)
    put

-- its extents end in the regions
pub pool_ends : (o : Option Pool) (settings : CellSettings) (extents : List Extent) → IsSome o → IfSome o EndInRegions
    → IfSome o (λ p. settings ≡ p.settings) → IfSome o (λ p. extents ≡ p.extents)
    → All (λ (x : Extent). x.start + rounded (x.count * settings.size) < 2 ^ 31) extents
pool_ends None settings extents there ends s x = absurd (let no : false ≡ true = there in cc)
pool_ends (Some p) settings extents there ends s x =
    let P : CellSettings → Type 0 = λ z. All (λ (x : Extent). x.start + rounded (x.count * z.size) < 2 ^ 31) extents in
    let Q : List Extent → Type 0 = All (λ (x : Extent). x.start + rounded (x.count * p.settings.size) < 2 ^ 31) in
    subst P (sym s) (subst Q (sym x) ends)

-- The first of the rows after a name is that of the next cell pool, and those after it are those after its name.
module _ (table : CellPools) (low : Option (List ℕ)) (name : List ℕ) where
  abbrev IsNextRow : Pool → Type 0
  IsNextRow p = rows_behind table low ≡ (p.name, cell_pool_of p) ∷ rows_behind table (Some p.name)

  pub fewer_rows : (o : Option Pool) → IsSome o → IfSome o IsNextRow → IfSome o (λ p. name ≡ p.name)
      → length (rows_behind table (Some name)) < length (rows_behind table low)
  fewer_rows None there next named = absurd (let no : false ≡ true = there in cc)
  fewer_rows (Some p) there next named =
      shorter (rows_behind table low) (rows_behind table (Some name)) (p.name, cell_pool_of p)
      (next ∙ ap (λ (n : List ℕ). (p.name, cell_pool_of p) ∷ rows_behind table (Some n)) (sym named))

  pub rows_remain : (old now new : Option (List ℕ)) (a b c : Gathered) (whole : List ℕ) (o : Option Pool) → IsSome o
      → Remains old now a b whole (flat_map row_lines (rows_behind table low)) → IfSome o IsNextRow → IfSome o (λ p. name ≡ p.name)
      → IfSome o (λ p. Puts now new b c (cell_pool_lines p.name (cell_pool_of p)))
      → Remains old new a c whole (flat_map row_lines (rows_behind table (Some name)))
  rows_remain old now new a b c whole None there remains next named put = absurd (let no : false ≡ true = there in cc)
  rows_remain old now new a b c whole (Some p) there remains next named put =
      remains_less old now new a b c whole (flat_map row_lines (rows_behind table low)) (cell_pool_lines p.name (cell_pool_of p)) (flat_map row_lines (rows_behind table (Some name)))
      remains (ap (flat_map row_lines) (next ∙ ap (λ (n : List ℕ). (p.name, cell_pool_of p) ∷ rows_behind table (Some n)) (sym named))) put
