use Rattle.std.proofs.Common.{◌≡◌, ◌∷◌, ◌<◌, ℕ, List, [], Option, Some, None, length, sym, subst, arith}
use Rattle.std.specs.Prelude.{IfSome, option_map}
use Rattle.storage_changes.specs.TableOrder.{rows_behind}
use Rattle.storage_changes.specs.PoolTable.{cell_pool_of}
use Rattle.storage_core.specs.Meaning.{state_of}
use Rattle.storage_map.specs.Cells.{cell_pool}
use Rattle.explain_report.proofs.PoolRows.{all_rows, fewer_rows, low_is}
use Rattle.explain_report.proofs.PoolSums.{IsSmall, all_added, at_first, small_added, sums_remain}
use Rattle.explain_report.proofs.pool_sums.sums_of.Goals as goal

pub loop-id-init : goal.loop-id-init
loop-id-init c =
    let table = (state_of c.args.storage.now).cell_pools in
    record { left = at_first table (rows_behind table None) (all_rows table); small = (omega arith, omega arith, omega arith, omega arith) }

pub loop-id-smaller : goal.loop-id-smaller
loop-id-smaller c =
    let s = c.args.storage.now in
    let table = (state_of s).cell_pools in
    let name = c.cell_pool_name.result.bytes in
    let F : Option (List ℕ) → Type 0 = λ low. length (rows_behind table (Some name)) < length (rows_behind table low) in
    subst F (low_is c.as_ref.result c.loop-id.behind c.as_ref.ensures.value)
    (fewer_rows table (option_map (λ n. n.now.bytes) c.as_ref.result) name (cell_pool s c.in-Some.id) c.in-Some.ensures.there c.in-Some.ensures.next c.cell_pool_name.ensures)

pub loop-id-preserved : goal.loop-id-preserved
loop-id-preserved c =
    let s = c.args.storage.now in
    let table = (state_of s).cell_pools in
    let is = low_is c.as_ref.result c.loop-id.behind c.as_ref.ensures.value in
    let name = c.cell_pool_name.result.bytes in
    let F : Option (List ℕ) → Type 0 = λ z. IfSome (cell_pool s c.in-Some.id) (λ p. rows_behind table z ≡ (p.name, cell_pool_of p) ∷ rows_behind table (Some p.name)) in
    record {
      left = sums_remain table (option_map (λ n. n.bytes) c.loop-id.behind) name c.loop-id.sums c.figures_of.result c.added-sums.result (cell_pool s c.in-Some.id) c.in-Some.ensures.there
          c.loop-id.invariant.left (subst F is c.in-Some.ensures.next) c.cell_pool_name.ensures c.figures_of.ensures c.added-sums.ensures;
      small = subst IsSmall (sym c.added-sums.ensures) (small_added c.loop-id.sums c.figures_of.result);
    }

pub returns : goal.returns
returns c =
    let table = (state_of c.args.storage.now).cell_pools in
    let F : Option (List ℕ) → Type 0 = λ z. rows_behind table z ≡ [] in
    all_added c.loop-id.sums (rows_behind table (option_map (λ n. n.bytes) c.loop-id.behind)) table
    (subst F (low_is c.as_ref.result c.loop-id.behind c.as_ref.ensures.value) c.in_default.ensures.none) c.loop-id.invariant.left c.loop-id.invariant.small
