use Rattle.std.proofs.Common.{◌≡◌, ◌∷◌, ◌<◌, ℕ, List, [], Option, Some, None, length, flat_map, ap, subst}
use Rattle.std.specs.Prelude.{IfSome, option_map}
use Rattle.storage_map.specs.Cells.{cell_pool}
use Rattle.storage_changes.specs.TableOrder.{rows_behind}
use Rattle.storage_changes.specs.PoolTable.{cell_pool_of}
use Rattle.storage_core.specs.Meaning.{state_of}
use Rattle.explain_report.proofs.PoolRows.{all_put, all_rows, fewer_rows, low_is, remains_all, row_in, rows_remain}
use Rattle.explain_report.proofs.pool_rows.put_pools.Goals as goal

pub loop-id-init : goal.loop-id-init
loop-id-init g c =
    let table = (state_of c.args.storage.now).cell_pools in
    remains_all (g.W.Write.contents c.args.writer.now) c.args.gathered.now (flat_map (row_in c.args.form) table) (flat_map (row_in c.args.form) (rows_behind table None))
    (ap (flat_map (row_in c.args.form)) (all_rows table))

pub loop-id-smaller : goal.loop-id-smaller
loop-id-smaller g c =
    let s = c.args.storage.now in
    let table = (state_of s).cell_pools in
    let name = c.cell_pool_name.result.bytes in
    let F : Option (List ℕ) → Type 0 = λ low. length (rows_behind table (Some name)) < length (rows_behind table low) in
    subst F (low_is c.as_ref.result c.loop-id.behind c.as_ref.ensures.value)
    (fewer_rows table (option_map (λ n. n.now.bytes) c.as_ref.result) name (cell_pool s c.in-Some.id) c.in-Some.ensures.there c.in-Some.ensures.next c.cell_pool_name.ensures)

pub loop-id-preserved : goal.loop-id-preserved
loop-id-preserved g c =
    let s = c.args.storage.now in
    let table = (state_of s).cell_pools in
    let low = option_map (λ n. n.now.bytes) c.as_ref.result in
    let is = low_is c.as_ref.result c.loop-id.behind c.as_ref.ensures.value in
    let name = c.cell_pool_name.result.bytes in
    rows_remain table (option_map (λ n. n.bytes) c.loop-id.behind) name c.args.form
    (g.W.Write.contents c.args.writer.now) (g.W.Write.contents c.loop-id.writer) (g.W.Write.contents c.put_pool.new.writer)
    c.args.gathered.now c.loop-id.gathered c.put_pool.new.gathered (flat_map (row_in c.args.form) table)
    (cell_pool s c.in-Some.id) c.in-Some.ensures.there c.loop-id.invariant
    (let F : Option (List ℕ) → Type 0 = λ z. IfSome (cell_pool s c.in-Some.id) (λ p. rows_behind table z ≡ (p.name, cell_pool_of p) ∷ rows_behind table (Some p.name)) in
    subst F is c.in-Some.ensures.next)
    c.cell_pool_name.ensures c.put_pool.ensures

pub returns : goal.returns
returns g c =
    let table = (state_of c.args.storage.now).cell_pools in
    let F : Option (List ℕ) → Type 0 = λ z. rows_behind table z ≡ [] in
    all_put (g.W.Write.contents c.args.writer.now) (g.W.Write.contents c.loop-id.writer) c.args.gathered.now c.loop-id.gathered
    (flat_map (row_in c.args.form) table) (flat_map (row_in c.args.form) (rows_behind table (option_map (λ n. n.bytes) c.loop-id.behind))) c.loop-id.invariant
    (ap (flat_map (row_in c.args.form)) (subst F (low_is c.as_ref.result c.loop-id.behind c.as_ref.ensures.value) c.in_default.ensures.none))
