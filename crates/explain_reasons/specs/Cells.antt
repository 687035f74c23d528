-- Why an area overlaps the cells of a cell pool, or a cell pool gives or takes no cell, as text.
use Rattle.std.specs.Prelude.{ℕ, ◌*◌, Bool, List, [], ◌∷◌, ◌++◌, Option, Some, None, codes, if◌then◌else◌}
use Rattle.std.specs.Fmt.{decimal}
use Rattle.vsm_model.specs.declared.services.Release.{Release}
use Rattle.vsm_model.specs.declared.Subpool.{Subpool}
use Rattle.vsm_model.specs.CellPools.{CellExtent, CellPool, CellPools, cell_pool_in}
use Rattle.vsm_model.specs.Regions.{doublewords}
use Rattle.vsm_model.specs.Releasing.{overlaps_extent}
use Rattle.vsm_model.specs.Search.{holds, is_in}
use Rattle.vsm_model.specs.State.{State}
use Rattle.vsm_model.specs.Texts.{hexadecimal}
use Rattle.explain_text.specs.Pieces.{line}
use Rattle.explain_reasons.specs.SightTexts.{seen_text}

-- ---- an area that overlaps cells

abbrev pub extent_text : List ℕ → ℕ → CellExtent → List ℕ
extent_text name size x =
    line
    (codes "cell pool " ∷ name ∷ codes " has an extent of " ∷ decimal (8 * doublewords (x.cells * size))
    ∷ codes " bytes at " ∷ hexadecimal 8 x.address ∷ [])

-- the first of these extents that has a byte in common with the area
abbrev pub extent_in : ℕ → ℕ → CellPool → List CellExtent → Option CellExtent
extent_in address length pool [] = None
extent_in address length pool (x ∷ xs) =
    if overlaps_extent address length pool x then Some x else extent_in address length pool xs

-- the extent of this cell pool, if there is one, or else another text
abbrev pub extent_or : List ℕ → CellPool → Option CellExtent → List ℕ → List ℕ
extent_or name pool None other = other
extent_or name pool (Some x) other = extent_text name pool.size x

-- that of the first cell pool by name that has one
abbrev pub overlap_text : ℕ → ℕ → CellPools → List ℕ
overlap_text address length [] = []
overlap_text address length (row ∷ rows) =
    extent_or row.0 row.1 (extent_in address length row.1 row.1.extents) (overlap_text address length rows)

abbrev pub overlaps_cells_text : State → Release → List ℕ
overlaps_cells_text s r = overlap_text r.address (8 * doublewords r.length) s.cell_pools

-- ---- a cell pool and its cells

abbrev pub pool_line : List ℕ → Subpool → List ℕ
pool_line name p =
    line
    (codes "cell pool " ∷ name ∷ codes " lies in subpool " ∷ decimal p.number ∷ codes " of task " ∷ decimal p.owner
    ∷ [])

-- what the current task sees at the number of the subpool in which it lies
abbrev pub place_of_pool_text : State → List ℕ → Subpool → List ℕ
place_of_pool_text s name p = seen_text s p.number [] ++ pool_line name p

abbrev pub missing_text : List ℕ → List ℕ
missing_text name = line (codes "no cell pool has the name " ∷ name ∷ [])

-- the place of the cell pool of a name, or that there is none
abbrev pub pool_text : State → List ℕ → Option CellPool → List ℕ
pool_text s name None = missing_text name
pool_text s name (Some pool) = place_of_pool_text s name pool.subpool

abbrev pub no_pool_text : State → List ℕ → List ℕ
no_pool_text s name = pool_text s name (cell_pool_in s.cell_pools name)

-- an address is that of a cell that is free, or of no cell
abbrev pub unused_text : ℕ → Bool → List ℕ
unused_text cell is_free =
    line
    (hexadecimal 8 cell
    ∷ (if is_free then codes " is free already" else codes " isn't the address of one of its cells") ∷ [])

abbrev pub not_in_use_text : State → List ℕ → ℕ → List ℕ
not_in_use_text s name cell =
    unused_text cell (holds (λ pool. is_in pool.free cell) (cell_pool_in s.cell_pools name))
