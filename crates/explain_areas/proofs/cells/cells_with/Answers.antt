use Rattle.std.proofs.Common.{◌≡◌, ◌++◌, ◌∷◌, ◌/◌, ◌<◌, ℕ, List, [], Option, Some, None, flat_map, length, sym, ap, ◌∙◌, subst}
use Rattle.std.specs.Prelude.{IfSome, option_map, unwrap_or}
use Rattle.std.proofs.lemmas.List.{append-nil}
use Rattle.storage_changes.specs.TableOrder.{rows_behind}
use Rattle.storage_changes.specs.PoolTable.{cell_pool_of}
use Rattle.storage_core.specs.Meaning.{state_of}
use Rattle.storage_map.specs.Cells.{cell_pool}
use Rattle.explain_areas.proofs.PoolWalks.{fewer_rows}
use Rattle.explain_who.proofs.CellPools.{all_rows, low_is}
use Rattle.explain_standing.specs.NumberMaps.{number_in}
use Rattle.explain_areas.proofs.CellWalks.{next_row, row_cells}
use Rattle.explain_areas.proofs.cells.cells_with.Goals as goal

pub loop-id-init : goal.loop-id-init
loop-id-init c =
    let table = (state_of c.args.storage.now).cell_pools in
    let row = row_cells (λ cell. unwrap_or (number_in c.args.lines.now (cell / 4)) 0) in
    ap (λ xs. xs ++ flat_map row (rows_behind table None)) c.new-cells.ensures.items ∙ ap (flat_map row) (all_rows table)

pub loop-id-smaller : goal.loop-id-smaller
loop-id-smaller c =
    let s = c.args.storage.now in
    let table = (state_of s).cell_pools in
    let name = c.cell_pool_name.result.bytes in
    let is = low_is c.as_ref.result c.loop-id.after c.as_ref.ensures.value in
    let F : Option (List ℕ) → Type 0 = λ z. length (rows_behind table (Some name)) < length (rows_behind table z) in
    subst F is (fewer_rows table (option_map (λ n. n.now.bytes) c.as_ref.result) name (cell_pool s c.in-Some.id) c.in-Some.ensures.there c.in-Some.ensures.next
    c.cell_pool_name.ensures)

pub loop-id-preserved : goal.loop-id-preserved
loop-id-preserved c =
    let s = c.args.storage.now in
    let table = (state_of s).cell_pools in
    let lines : ℕ → ℕ = λ cell. unwrap_or (number_in c.args.lines.now (cell / 4)) 0 in
    let is = low_is c.as_ref.result c.loop-id.after c.as_ref.ensures.value in
    let F : Option (List ℕ) → Type 0 = λ z. IfSome (cell_pool s c.in-Some.id) (λ p. rows_behind table z ≡ (p.name, cell_pool_of p) ∷ rows_behind table (Some p.name)) in
    next_row lines c.loop-id.cells.items c.add_pool.new.cells.items (flat_map (row_cells lines) table) table (option_map (λ n. n.bytes) c.loop-id.after) c.cell_pool_name.result.bytes
    (cell_pool s c.in-Some.id) c.in-Some.ensures.there (subst F is c.in-Some.ensures.next) c.cell_pool_name.ensures c.in_ok-add_pool.ensures c.loop-id.invariant

pub returns : goal.returns
returns c =
    let table = (state_of c.args.storage.now).cell_pools in
    let row = row_cells (λ cell. unwrap_or (number_in c.args.lines.now (cell / 4)) 0) in
    let is = low_is c.as_ref.result c.loop-id.after c.as_ref.ensures.value in
    let F : Option (List ℕ) → Type 0 = λ z. rows_behind table z ≡ [] in
    let items = c.loop-id.cells.items in
    sym (append-nil items) ∙ sym (ap (λ rows. items ++ flat_map row rows) (subst F is c.in_default.ensures.none)) ∙ c.loop-id.invariant
