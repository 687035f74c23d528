use Rattle.std.proofs.Common.{◌≡◌, ◌∙◌, ◌+◌, ◌∷◌, sym, ap, subst, refl, arith, ℕ, Option, Some, None, drop}
use Rattle.std.specs.Prelude.{slice_get, IfNone}
use Rattle.storage_changes.specs.TableOrder.{rows_behind}
use Rattle.storage_changes.specs.PoolTable.{cell_pool_of}
use Rattle.storage_map.specs.Cells.{cell_pool}
use Rattle.storage_core.specs.Meaning.{state_of}
use Rattle.storage_map.proofs.CellsInOrder.{of_some, none_left, here_left, rows_left}
use Rattle.storage_map.proofs.positions.cell_pool_at.Goals as goal

pub returns-in_err-id-2-clause-none : goal.returns-in_err-id-2-clause-none
returns-in_err-id-2-clause-none c =
    let s = c.args.storage.now in
    let table = (state_of s).cell_pools in
    let k = c.loop.counter in
    let bytes = c.cell_pool_name-name.result.bytes in
    let rest = rows_left table bytes k (cell_pool s c.loop.id) c.loop.invariant.there c.loop.invariant.left c.cell_pool_name-name.ensures in
    let P : Option ℕ → Type 0 = λ z. IfNone z (slice_get table c.args.i ≡ None) in
    subst P (sym c.from_residual-in_err-id-2.ensures)
    (none_left (rows_behind table (Some bytes)) table (k + 1) rest c.args.i c.in_err-id-2.ensures.none (omega (arith, c.loop-test.true)))

pub loop-preserved : goal.loop-preserved
loop-preserved c =
    let s = c.args.storage.now in
    let table = (state_of s).cell_pools in
    let k = c.loop.counter in
    let bytes = c.cell_pool_name-name.result.bytes in
    let rest = rows_left table bytes k (cell_pool s c.loop.id) c.loop.invariant.there c.loop.invariant.left c.cell_pool_name-name.ensures in
    record {
      there = c.in_ok-id-2.ensures.there;
      left = of_some (cell_pool s c.in_ok-id-2.id)
          (λ p. rows_behind table (Some bytes) ≡ (p.name, cell_pool_of p) ∷ rows_behind table (Some p.name))
          (λ p. drop (k + 1) table ≡ (p.name, cell_pool_of p) ∷ rows_behind table (Some p.name))
          (λ p there next. sym rest ∙ next) c.in_ok-id-2.ensures.next;
    }

pub returns-clause-row : goal.returns-clause-row
returns-clause-row c =
    let s = c.args.storage.now in
    let table = (state_of s).cell_pools in
    let k = c.loop.counter in
    of_some (cell_pool s c.loop.id)
    (λ p. drop k table ≡ (p.name, cell_pool_of p) ∷ rows_behind table (Some p.name))
    (λ p. slice_get table c.args.i ≡ Some (p.name, cell_pool_of p))
    (λ p there left.
    let e : c.args.i ≡ k = omega arith in
    ap (slice_get table) e ∙ here_left (drop k table) table k (p.name, cell_pool_of p) (rows_behind table (Some p.name)) refl left)
    c.loop.invariant.left
