use Rattle.std.proofs.Common.{◌≡◌, ◌∷◌, ◌<◌, ℕ, List, [], Option, Some, length, sym, ap, ◌∙◌, subst}
use Rattle.std.specs.Prelude.{IfSome, option_map}
use Rattle.storage_changes.specs.TableOrder.{rows_behind}
use Rattle.storage_changes.specs.PoolTable.{cell_pool_of}
use Rattle.storage_core.specs.Meaning.{state_of}
use Rattle.storage_map.specs.Cells.{cell_pool}
use Rattle.vsm_model.specs.declared.Subpool.{Subpool}
use Rattle.explain_who.specs.Taken.{cell_at}
use Rattle.explain_who.proofs.CellPools.{all_rows, cell_pool_has, cell_pool_passed, fewer_rows, low_is}
use Rattle.explain_who.proofs.cells.cell_at.Goals as goal

pub loop-id-init : goal.loop-id-init
loop-id-init c = ap (cell_at c.args.address) (all_rows (state_of c.args.storage.now).cell_pools)

pub returns-in-Some-cell_in : goal.returns-in-Some-cell_in
returns-in-Some-cell_in c =
    let s = c.args.storage.now in
    let table = (state_of s).cell_pools in
    let is = low_is c.as_ref.result c.loop-id.behind c.as_ref.ensures.value in
    let F : Option (List ℕ) → Type 0 = λ z. IfSome (cell_pool s c.in-Some.id) (λ p. rows_behind table z ≡ (p.name, cell_pool_of p) ∷ rows_behind table (Some p.name)) in
    sym (cell_pool_has c.args.address table (option_map (λ n. n.bytes) c.loop-id.behind) (cell_pool s c.in-Some.id) c.in-Some-cell_in.cell c.in-Some.ensures.there
    (subst F is c.in-Some.ensures.next) c.in-Some-cell_in.ensures)
    ∙ c.loop-id.invariant

any_subpool : Subpool
any_subpool = record { number = 0; owner = 0 }

pub loop-id-smaller : goal.loop-id-smaller
loop-id-smaller c =
    let s = c.args.storage.now in
    let table = (state_of s).cell_pools in
    let name = c.cell_pool_name.result.bytes in
    let is = low_is c.as_ref.result c.loop-id.behind c.as_ref.ensures.value in
    let F : Option (List ℕ) → Type 0 = λ z. length (rows_behind table (Some name)) < length (rows_behind table z) in
    subst F is (fewer_rows any_subpool c.args.address table (option_map (λ n. n.now.bytes) c.as_ref.result) (cell_pool s c.in-Some.id) name c.in-Some.ensures.there c.in-Some.ensures.next
    c.cell_pool_name.ensures)

pub loop-id-preserved : goal.loop-id-preserved
loop-id-preserved c =
    let s = c.args.storage.now in
    let table = (state_of s).cell_pools in
    let name = c.cell_pool_name.result.bytes in
    let is = low_is c.as_ref.result c.loop-id.behind c.as_ref.ensures.value in
    let F : Option (List ℕ) → Type 0 = λ z. IfSome (cell_pool s c.in-Some.id) (λ p. rows_behind table z ≡ (p.name, cell_pool_of p) ∷ rows_behind table (Some p.name)) in
    sym (cell_pool_passed c.args.address table (option_map (λ n. n.bytes) c.loop-id.behind) (cell_pool s c.in-Some.id) name c.in-Some.ensures.there (subst F is c.in-Some.ensures.next)
    c.cell_pool_name.ensures c.in-None.ensures)
    ∙ c.loop-id.invariant

pub returns : goal.returns
returns c =
    let table = (state_of c.args.storage.now).cell_pools in
    let is = low_is c.as_ref.result c.loop-id.behind c.as_ref.ensures.value in
    let F : Option (List ℕ) → Type 0 = λ z. rows_behind table z ≡ [] in
    sym (ap (cell_at c.args.address) (subst F is c.in_default.ensures.none)) ∙ c.loop-id.invariant
