use Rattle.std.proofs.Common.{◌≡◌, ◌∷◌, ◌<◌, ◌*◌, ℕ, List, [], Option, Some, None, length, sym, ap, ◌∙◌, subst}
use Rattle.std.specs.Prelude.{IfSome, option_map}
use Rattle.storage_changes.specs.PoolTable.{cell_pool_of, extent_of}
use Rattle.storage_changes.specs.TableOrder.{rows_behind}
use Rattle.storage_core.specs.Meaning.{state_of}
use Rattle.storage_map.specs.Cells.{cell_pool}
use Rattle.vsm_model.specs.CellPools.{CellPools}
use Rattle.vsm_model.specs.Regions.{doublewords}
use Rattle.explain_reasons.specs.Cells.{extent_text, overlap_text}
use Rattle.explain_reasons.proofs.Extents.{first_of, row_found, row_passed}
use Rattle.explain_reasons.proofs.Rows.{IsNextRow, all_rows, each, fact_of, fewer_rows, low_is, pool_passed}
use Rattle.explain_reasons.proofs.cells.first_overlap.Goals as goal

pub loop-id-init : goal.loop-id-init
loop-id-init c = ap (overlap_text c.args.r.address (8 * doublewords c.args.r.length)) (all_rows (state_of c.args.storage.now).cell_pools)

pub returns-in-Some-extent_in-clause-found : goal.returns-in-Some-extent_in-clause-found
returns-in-Some-extent_in-clause-found c =
    let s = c.args.storage.now in
    let table = (state_of s).cell_pools in
    let a = c.args.r.address in
    let n = 8 * doublewords c.args.r.length in
    let o = cell_pool s c.in-Some.id in
    let x = c.in-Some-extent_in.extent in
    let low = option_map (λ n. n.bytes) c.loop-id.after in
    let next = subst (λ (z : Option (List ℕ)). IfSome o (IsNextRow table z)) (low_is c.as_ref.result c.loop-id.after c.as_ref.ensures.value) c.in-Some.ensures.next in
    each o (λ p. overlap_text a n table ≡ extent_text p.name p.settings.size (extent_of x))
    (λ p there. sym c.loop-id.invariant ∙ ap (overlap_text a n) (fact_of (IsNextRow table low) o p there next)
    ∙ row_found p a n x (fact_of (λ p. Some (extent_of x) ≡ first_of p a n p.extents) o p there c.in-Some-extent_in.ensures) (rows_behind table (Some p.name)))

pub loop-id-smaller : goal.loop-id-smaller
loop-id-smaller c =
    let s = c.args.storage.now in
    let table = (state_of s).cell_pools in
    let name = c.cell_pool_name.result.bytes in
    let is = low_is c.as_ref.result c.loop-id.after c.as_ref.ensures.value in
    subst (λ (z : Option (List ℕ)). length (rows_behind table (Some name)) < length (rows_behind table z)) is
    (fewer_rows table (option_map (λ n. n.now.bytes) c.as_ref.result) (cell_pool s c.in-Some.id) name c.in-Some.ensures.there c.in-Some.ensures.next c.cell_pool_name.ensures)

pub loop-id-preserved : goal.loop-id-preserved
loop-id-preserved c =
    let s = c.args.storage.now in
    let table = (state_of s).cell_pools in
    let a = c.args.r.address in
    let n = 8 * doublewords c.args.r.length in
    let o = cell_pool s c.in-Some.id in
    let low = option_map (λ n. n.bytes) c.loop-id.after in
    let next = subst (λ (z : Option (List ℕ)). IfSome o (IsNextRow table z)) (low_is c.as_ref.result c.loop-id.after c.as_ref.ensures.value) c.in-Some.ensures.next in
    sym (pool_passed table low (overlap_text a n) o c.cell_pool_name.result.bytes c.in-Some.ensures.there next c.cell_pool_name.ensures
    (each o (λ p. (rows : CellPools) → overlap_text a n ((p.name, cell_pool_of p) ∷ rows) ≡ overlap_text a n rows)
    (λ p there. row_passed p a n (fact_of (λ p. None ≡ first_of p a n p.extents) o p there c.in-None.ensures))))
    ∙ c.loop-id.invariant

pub returns-clause-none : goal.returns-clause-none
returns-clause-none c =
    let table = (state_of c.args.storage.now).cell_pools in
    let F = overlap_text c.args.r.address (8 * doublewords c.args.r.length) in
    let is = low_is c.as_ref.result c.loop-id.after c.as_ref.ensures.value in
    sym c.loop-id.invariant ∙ ap F (subst (λ (z : Option (List ℕ)). rows_behind table z ≡ []) is c.in_default.ensures.none)
