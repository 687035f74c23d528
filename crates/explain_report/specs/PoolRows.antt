-- What is written of cell pools, as text or as JSON.
use Rattle.std.specs.Prelude.{ℕ, List, [], ◌∷◌, codes, flat_map}
use Rattle.explain_text.specs.Rows.{Meant, number, row_of, text}
use Rattle.explain_text.specs.declared.json.Form.{Form}
use Rattle.vsm_model.specs.CellPools.{CellPool, CellPools}
use Rattle.vsm_model.specs.declared.Subpool.{Subpool}
use Rattle.explain_report.specs.PoolFigures.{figures_of, used_in}
use Rattle.explain_report.specs.declared.pool_figures.PoolFigures.{PoolFigures}

-- its name, its subpool, that one's owner, the size of its cells, its extents and their bytes, and the cells that are
-- in use and that are free
abbrev pub pool_fields : List ℕ → Subpool → ℕ → PoolFigures → List Meant
pool_fields name subpool size f =
    text (codes "CELLPOOL ") (codes "name") name
    ∷ number (codes " SUBPOOL ") (codes "subpool") subpool.number
    ∷ number (codes " OWNER ") (codes "owner") subpool.owner
    ∷ number (codes " SIZE ") (codes "size") size
    ∷ number (codes " EXTENTS ") (codes "extents") f.extents
    ∷ number (codes " BYTES ") (codes "bytes") f.bytes
    ∷ number (codes " USED ") (codes "used") (used_in f)
    ∷ number (codes " FREE ") (codes "free") f.free
    ∷ []

abbrev pub pool_in : Form → List ℕ → CellPool → List ℕ
pool_in form name pool =
    row_of form (codes "pool") (pool_fields name pool.subpool pool.size (figures_of pool))

-- all of them, by name
abbrev pub pools_in : Form → CellPools → List ℕ
pools_in form pools = flat_map (λ row. pool_in form row.0 row.1) pools
