-- How storage is taken, as text.
use Rattle.std.specs.Prelude.{ℕ, Option, Some, None, List, [], ◌++◌, codes}
use Rattle.std.specs.Fmt.{decimal}
use Rattle.vsm_model.specs.declared.Subpool.{Subpool}
use Rattle.explain_who.specs.declared.place.Place.{Place}
use Rattle.explain_who.specs.declared.takers.Taken.{Taken}
use Rattle.explain_who.specs.declared.takers.Taken.TheVariants as taken

-- a subpool with the task that it belongs to
abbrev pub subpool_text : Subpool → List ℕ
subpool_text p = codes "subpool " ++ decimal p.number ++ codes " of task " ++ decimal p.owner

-- words, and the name of a cell pool
abbrev pub pool_text : List ℕ → List ℕ → List ℕ
pool_text words name = words ++ codes " of cell pool " ++ name

-- an area, and the line that took it
abbrev pub area_text : Option ℕ → List ℕ
area_text (Some line) = codes "area of line " ++ decimal line
area_text None = codes "area"

-- how storage is taken, if at all; of an area, the line that took it
abbrev pub taken_text : Option ℕ → Taken → List ℕ
taken_text line taken.Unassigned = codes "unassigned"
taken_text line taken.Free = codes "free"
taken_text line (taken.Obtained p) = area_text line
taken_text line (taken.UsedCell name) = pool_text (codes "cell in use") name.items
taken_text line (taken.FreeCell name) = pool_text (codes "free cell") name.items
taken_text line (taken.PastCells name) = pool_text (codes "after the cells") name.items

-- the subpool of storage, after it
abbrev pub subpool_after : Option Subpool → List ℕ
subpool_after None = []
subpool_after (Some p) = codes ", " ++ subpool_text p

abbrev pub storage_text : Option ℕ → Place → List ℕ
storage_text line p = taken_text line p.taken ++ subpool_after p.subpool
