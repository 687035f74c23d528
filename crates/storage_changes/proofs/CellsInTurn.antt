-- A cell that is handed out or given back.
use Rattle.std.proofs.Common.{ℕ, ◌++◌, Option, None, refl, arith}
use Rattle.cell_pool.specs.Laws.{FirstCellIsUsed}
use Rattle.cell_pool.specs.Pools.{without_first, with_first}
use Rattle.storage_changes.specs.TableLaws.{ChangedPoolsHaveTheirRow}
use Rattle.storage_changes.specs.Changes.{change_of}
use Rattle.storage_changes.specs.Meaning.{model_of}
use Rattle.storage_changes.specs.StorageActions.{run_of, register_records}
use Rattle.storage_changes.proofs.Goes.{at, goes_on}
use Rattle.storage_changes.proofs.Rows.{with_rows, stands_of, rows_go, task_is_there, leads_with_rows, none_fresh, none_brought}
use Rattle.storage_changes.specs.CellActions.{handed_out_records, given_back_records, with_handed_out, with_given_back}
use Rattle.storage_changes.specs.CellLaws.{HandingOutLeads, GivingBackCellsLeads}
use Rattle.storage_changes.proofs.Changed.{changed, changed_stands, changed_leads, hands_out, gives_back}

pub handing_out_leads : ChangedPoolsHaveTheirRow → FirstCellIsUsed → HandingOutLeads
handing_out_leads row first_is_used settings m p cell rest rows sound named there first are formed =
    let records = handed_out_records p.id cell in
    let none : ℕ → Option ℕ = λ a. None in
    let change = change_of (records ++ register_records m rows) 0 (run_of 0 0) in
    let n = changed m p.id without_first in
    leads_with_rows settings m n (records ++ register_records m rows) 0 (run_of 0 0) change.frames none 0 rows (with_handed_out (model_of m) p)
    (goes_on (at m change.frames none 0) records (register_records m rows) n (with_rows n rows) change.frames none change.frames none 0 0
    (hands_out m change.frames none 0 0 p cell named.ids there rest first (first_is_used p cell rest (named.cells p.id p there) first) (omega arith))
    (λ s less. rows_go n change.frames none s 0 rows (task_is_there settings m sound) are less))
    none_brought (none_fresh m) (changed_stands settings m p.id without_first (stands_of settings m sound))
    (changed_leads row m p without_first named there refl) formed

pub giving_back_cells_leads : ChangedPoolsHaveTheirRow → GivingBackCellsLeads
giving_back_cells_leads row settings m p cell rows sound named there used are formed =
    let records = given_back_records p.id cell in
    let none : ℕ → Option ℕ = λ a. None in
    let change = change_of (records ++ register_records m rows) 0 (run_of 0 0) in
    let n = changed m p.id (with_first cell) in
    leads_with_rows settings m n (records ++ register_records m rows) 0 (run_of 0 0) change.frames none 0 rows (with_given_back (model_of m) p cell)
    (goes_on (at m change.frames none 0) records (register_records m rows) n (with_rows n rows) change.frames none change.frames none 0 0
    (gives_back m change.frames none 0 0 p cell named.ids there used (omega arith))
    (λ s less. rows_go n change.frames none s 0 rows (task_is_there settings m sound) are less))
    none_brought (none_fresh m) (changed_stands settings m p.id (with_first cell) (stands_of settings m sound))
    (changed_leads row m p (with_first cell) named there refl) formed
