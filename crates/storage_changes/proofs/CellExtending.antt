-- A cell pool that gets another extent, whose first cell it hands out.
use Rattle.std.proofs.Common.{◌≡◌, ◌+◌, ◌*◌, ◌<◌, false, ◌++◌, refl, ◌∙◌, ap, arith}
use Rattle.std.specs.Prelude.{drop}
use Rattle.std.proofs.Math.Nat.{mul-pos}
use Rattle.vsm_model.specs.Areas.{address_of}
use Rattle.vsm_model.specs.Cells.{with_pool}
use Rattle.vsm_model.specs.Obtaining.{with_area}
use Rattle.cell_pool.specs.Pools.{Pool, cells_from, extended, without_first}
use Rattle.storage_changes.specs.TableLaws.{ChangedPoolsHaveTheirRow, PoolsAreFound}
use Rattle.storage_changes.specs.PoolTable.{cell_pool_of, cell_pools_in}
use Rattle.storage_changes.specs.Meaning.{model_of}
use Rattle.storage_changes.specs.StorageActions.{register_records}
use Rattle.storage_changes.proofs.Goes.{at, goes_on}
use Rattle.storage_changes.proofs.Rows.{with_rows, rows_go, task_is_there, leads_with_rows}
use Rattle.storage_changes.specs.CellActions.{area_records, area_blanks, area_pages, extent_records, extent_blanks, handed_out_records, doublewords_for, with_extended}
use Rattle.storage_changes.specs.CellLaws.{ExtendingLeads}
use Rattle.storage_changes.proofs.Changed.{changed, listed_too, changed_stands, hands_out, extends, ids_changed, at_twice, found_changed}
use Rattle.storage_changes.proofs.CellExtents.{meets_none, first_free, first_is_used}
use Rattle.storage_changes.proofs.Places.{takes, with_parts, zeros_for, nothing, below_line}

pub extending_leads : ChangedPoolsHaveTheirRow → PoolsAreFound → ExtendingLeads
extending_leads row are_found settings m p count goes rows sound named there empty some size own room are formed =
    let sub = p.settings.subpool in
    let length = doublewords_for p count in
    let start = address_of goes in
    let bytes : 0 < count * p.settings.size = mul-pos some size in
    let more : 0 < length = omega (arith, bytes) in
    let taking = takes settings m sub false length goes sound own more room in
    let frames = zeros_for (area_pages length goes) in
    let n = with_parts m taking.parts in
    let grow : Pool → Pool = extended start count in
    let grown = changed n p.id grow in
    let q = grow p in
    let end = changed grown p.id without_first in
    let b = taking.brought in
    let g = taking.given in
    let range = below_line m sub length goes room in
    let area = area_records sub length goes in
    let extent = extent_records p.id start count in
    let cell = handed_out_records p.id start in
    let registers = register_records m rows in
    let blanks = area_blanks goes + extent_blanks count in
    let pool = cell_pool_of (without_first q) in
    let table = ap cell_pools_in (λ i id. at_twice m.subpools.cells p.id grow (λ x. refl) without_first (m.subpools.cells id) i)
    ∙ row m.subpools.cells p.id p (λ x. without_first (grow x)) named there refl in
    let listed : model_of end ≡ with_pool (model_of n) p.name pool = λ i. record (model_of n) { cell_pools = table i } in
    leads_with_rows settings m end (area ++ extent ++ cell ++ registers) blanks (area_pages length goes) b g 0 rows (with_extended (model_of m) p count goes)
    (goes_on (at m frames nothing blanks) (area ++ extent ++ cell) registers end (with_rows end rows) b g b g 0 0
    (goes_on (at m frames nothing blanks) (area ++ extent) cell grown end b g b g 0 0
    (goes_on (at m frames nothing blanks) area extent n grown b g b g (extent_blanks count + 1) 0
    (taking.go blanks (extent_blanks count + 1) (omega arith) (omega arith))
    (λ s less. extends n b g s 0 p start named.ids there start count some (omega (arith, range))
    (meets_none settings m p count goes sound size more room are_found named there) (omega (arith, less))))
    (λ s less. hands_out grown b g s 0 q start (ids_changed m.subpools.cells p.id grow (λ x. refl) named.ids) (found_changed m.subpools.cells p grow there)
    (drop 1 (cells_from p.settings.size start count)) (first_free p start count empty some size) (first_is_used p start count empty some size) (omega arith)))
    (λ s less. rows_go end b g s 0 rows (task_is_there settings m sound) are less))
    taking.none taking.fresh (changed_stands settings grown p.id without_first (changed_stands settings n p.id grow taking.stands))
    (listed_too (model_of end) (model_of n) (with_area (model_of m) sub length goes) p.name pool listed taking.leads) formed
