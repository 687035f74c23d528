-- How the storage at an address is taken, on the plain machine.
-- Assembler Services Reference, STORAGE OBTAIN and CPOOL.
use Rattle.std.specs.Prelude.{ℕ, ◌+◌, ◌-◌, ◌*◌, ◌/◌, ◌%◌, Bool, true, false, ◌&&◌, ◌==◌, nat_le, nat_lt, if◌then◌else◌}
use Rattle.std.specs.Prelude.{Option, Some, None, option_map, unwrap_or, List, [], ◌∷◌}
use Rattle.std.specs.Str.{bytes_eq}
use Rattle.vsm_model.specs.declared.Subpool.{Subpool}
use Rattle.vsm_model.specs.Areas.{is_free}
use Rattle.vsm_model.specs.CellPools.{CellExtent, CellPool, CellPools}
use Rattle.vsm_model.specs.Cells.{is_in_use}
use Rattle.vsm_model.specs.Regions.{doublewords}
use Rattle.vsm_model.specs.State.{State}
use Rattle.explain_who.specs.declared.takers.Taken.{Taken}
use Rattle.explain_who.specs.declared.takers.Taken.TheVariants as taken

-- ---- cells of a size in bytes

-- the extent has the address: it goes to the end of its last doubleword
abbrev pub has_address : ℕ → ℕ → CellExtent → Bool
has_address size address x = nat_le x.address address && nat_lt address (x.address + 8 * doublewords (x.cells * size))

-- the first extent that has it
abbrev pub extent_with : ℕ → ℕ → List CellExtent → Option CellExtent
extent_with size address [] = None
extent_with size address (x ∷ xs) = if has_address size address x then Some x else extent_with size address xs

-- the cell in which it lies, by its address; none after the extent's last cell
abbrev pub cell_with : ℕ → ℕ → CellExtent → Option ℕ
cell_with size address x =
    if nat_lt (address - x.address) (x.cells * size) then Some (address - (address - x.address) % size) else None

-- ---- cell pools

-- by a cell pool: whether the cell is in use; or after the last cell
abbrev pub taken_cell : List ℕ → CellPool → Option ℕ → Taken
taken_cell name pool (Some cell) =
    if is_in_use pool cell then taken.UsedCell (record { items = name }) else taken.FreeCell (record { items = name })
taken_cell name pool None = taken.PastCells (record { items = name })

-- by a cell pool, if an extent of it has the address
abbrev pub taken_in : ℕ → List ℕ → CellPool → Option Taken
taken_in address name pool =
    option_map (λ x. taken_cell name pool (cell_with pool.size address x)) (extent_with pool.size address pool.extents)

-- by the first cell pool that has the address, else by an obtain in the subpool
abbrev pub taken_by : Subpool → ℕ → CellPools → Taken
taken_by p address [] = taken.Obtained p
taken_by p address (row ∷ rows) = unwrap_or (taken_in address row.0 row.1) (taken_by p address rows)

-- the cell in which an address lies, by its address, of the first cell pool that has the address
abbrev pub cell_in : ℕ → CellPool → Option (Option ℕ)
cell_in address pool = option_map (cell_with pool.size address) (extent_with pool.size address pool.extents)

abbrev pub cell_at : ℕ → CellPools → Option ℕ
cell_at address [] = None
cell_at address (row ∷ rows) = unwrap_or (cell_in address row.1) (cell_at address rows)

-- ---- storage

-- in a page of this subpool
abbrev pub taken_on : State → ℕ → Option Subpool → Taken
taken_on s address None = taken.Unassigned
taken_on s address (Some p) = if is_free s p (address / 8) then taken.Free else taken_by p address s.cell_pools

abbrev pub taken_at : State → ℕ → Taken
taken_at s address = taken_on s address (s.pages (address / 4096))

-- both are the same
abbrev pub same_taken : Taken → Taken → Bool
same_taken taken.Unassigned taken.Unassigned = true
same_taken taken.Free taken.Free = true
same_taken (taken.Obtained a) (taken.Obtained b) = (a.number == b.number) && (a.owner == b.owner)
same_taken (taken.UsedCell a) (taken.UsedCell b) = bytes_eq a.items b.items
same_taken (taken.FreeCell a) (taken.FreeCell b) = bytes_eq a.items b.items
same_taken (taken.PastCells a) (taken.PastCells b) = bytes_eq a.items b.items
same_taken _ _ = false

-- it's taken: its page is assigned, and it isn't free
abbrev pub is_taken : Taken → Bool
is_taken taken.Unassigned = false
is_taken taken.Free = false
is_taken (taken.Obtained p) = true
is_taken (taken.UsedCell name) = true
is_taken (taken.FreeCell name) = true
is_taken (taken.PastCells name) = true
