use Rattle.std.proofs.Common.{◌≡◌, ◌∷◌, ◌<◌, ℕ, List, [], Option, Some, length, sym, ap, ◌∙◌, subst}
use Rattle.std.specs.Prelude.{IfSome, option_map}
use Rattle.storage_changes.specs.PoolTable.{cell_pool_of}
use Rattle.storage_changes.specs.TableOrder.{rows_behind}
use Rattle.storage_core.specs.Meaning.{state_of}
use Rattle.storage_map.specs.Cells.{cell_pool}
use Rattle.cell_pool.specs.Pools.{Pool}
use Rattle.vsm_model.specs.CellPools.{CellPool, CellPools, cell_pool_in}
use Rattle.explain_reasons.proofs.Named.{is_later, is_named, other_bytes, same_bytes}
use Rattle.explain_reasons.proofs.Rows.{IsNextRow, all_rows, each, fact_of, fewer_rows, low_is, pool_passed, some_pool}
use Rattle.explain_reasons.proofs.pools.find_pool.Goals as goal

pub loop-id-init : goal.loop-id-init
loop-id-init c = ap (λ (t : CellPools). cell_pool_in t c.args.name.now) (all_rows (state_of c.args.storage.now).cell_pools)

pub returns-then-eq-clause-found : goal.returns-then-eq-clause-found
returns-then-eq-clause-found c =
    let s = c.args.storage.now in
    let table = (state_of s).cell_pools in
    let name = c.args.name.now in
    let o = cell_pool s c.in-Some.id in
    let low = option_map (λ n. n.bytes) c.loop-id.after in
    let next = subst (λ (z : Option (List ℕ)). IfSome o (IsNextRow table z)) (low_is c.as_ref.result c.loop-id.after c.as_ref.ensures.value) c.in-Some.ensures.next in
    let (p, there) = some_pool o c.in-Some.ensures.there in
    let its = c.as_str.ensures.value ∙ fact_of (λ p. c.cell_pool_name-its.result.bytes ≡ p.name) o p there c.cell_pool_name-its.ensures in
    let same = sym (same_bytes c.as_str.result.now name (sym c.eq.ensures ∙ c.if-eq.true)) ∙ its in
    sym c.loop-id.invariant ∙ ap (λ (t : CellPools). cell_pool_in t name) (fact_of (IsNextRow table low) o p there next)
    ∙ is_named name p.name (cell_pool_of p) (rows_behind table (Some p.name)) same
    ∙ ap (λ (z : Option Pool). option_map cell_pool_of z) (sym there)

pub loop-id-smaller : goal.loop-id-smaller
loop-id-smaller c =
    let s = c.args.storage.now in
    let table = (state_of s).cell_pools in
    let name = c.cell_pool_name-its.result.bytes in
    let is = low_is c.as_ref.result c.loop-id.after c.as_ref.ensures.value in
    subst (λ (z : Option (List ℕ)). length (rows_behind table (Some name)) < length (rows_behind table z)) is
    (fewer_rows table (option_map (λ n. n.now.bytes) c.as_ref.result) (cell_pool s c.in-Some.id) name c.in-Some.ensures.there c.in-Some.ensures.next c.cell_pool_name-its.ensures)

pub loop-id-preserved : goal.loop-id-preserved
loop-id-preserved c =
    let s = c.args.storage.now in
    let table = (state_of s).cell_pools in
    let name = c.args.name.now in
    let its = c.cell_pool_name-its.result.bytes in
    let o = cell_pool s c.in-Some.id in
    let low = option_map (λ n. n.bytes) c.loop-id.after in
    let next = subst (λ (z : Option (List ℕ)). IfSome o (IsNextRow table z)) (low_is c.as_ref.result c.loop-id.after c.as_ref.ensures.value) c.in-Some.ensures.next in
    let F : CellPools → Option CellPool = λ t. cell_pool_in t name in
    let apart : its ≡ name → ⊥ = λ same. other_bytes c.as_str.result.now name (sym c.eq.ensures ∙ c.if-eq.false) (c.as_str.ensures.value ∙ same) in
    sym (pool_passed table low F o its c.in-Some.ensures.there next c.cell_pool_name-its.ensures
    (each o (λ p. (rows : CellPools) → F ((p.name, cell_pool_of p) ∷ rows) ≡ F rows)
    (λ p there. is_later name p.name (cell_pool_of p) (λ same. apart (fact_of (λ p. its ≡ p.name) o p there c.cell_pool_name-its.ensures ∙ sym same)))))
    ∙ c.loop-id.invariant

pub returns-clause-found : goal.returns-clause-found
returns-clause-found c =
    let table = (state_of c.args.storage.now).cell_pools in
    let F : CellPools → Option CellPool = λ t. cell_pool_in t c.args.name.now in
    let is = low_is c.as_ref.result c.loop-id.after c.as_ref.ensures.value in
    sym c.loop-id.invariant ∙ ap F (subst (λ (z : Option (List ℕ)). rows_behind table z ≡ []) is c.in_default.ensures.none)
