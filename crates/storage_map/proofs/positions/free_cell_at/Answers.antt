use Rattle.std.proofs.Common.{◌≡◌, ◌∙◌, sym, ap, arith, ◌+◌, drop, Some}
use Rattle.std.specs.Prelude.{slice_get}
use Rattle.storage_map.specs.Cells.{cell_pool, cells_left}
use Rattle.storage_map.proofs.CellsInOrder.{of_some, step_left, none_left, here_left}
use Rattle.storage_map.proofs.positions.free_cell_at.Goals as goal

pub returns-in_err-place : goal.returns-in_err-place
returns-in_err-place c =
    let s = c.args.storage.now in
    let k = c.loop.counter in
    of_some (cell_pool s c.args.id) (λ p. cells_left s c.loop.place ≡ drop k p.cells) (λ p. c.from_residual.result ≡ slice_get p.cells c.args.i)
    (λ p there left. c.from_residual.ensures
    ∙ sym (none_left (cells_left s c.loop.place) p.cells k left c.args.i c.in_err-place.ensures.none (omega (arith, c.loop-test.true))))
    c.loop.invariant.left

pub loop-preserved : goal.loop-preserved
loop-preserved c =
    let s = c.args.storage.now in
    let k = c.loop.counter in
    record {
      place = c.in_ok-place.ensures.place;
      left = of_some (cell_pool s c.args.id) (λ p. cells_left s c.loop.place ≡ drop k p.cells) (λ p. cells_left s c.in_ok-place.field-0-1 ≡ drop (k + 1) p.cells)
          (λ p there left. step_left (cells_left s c.loop.place) p.cells k left c.in_ok-place.field-0-0 (cells_left s c.in_ok-place.field-0-1) c.in_ok-place.ensures.next)
          c.loop.invariant.left;
    }

pub returns-in_err-cell : goal.returns-in_err-cell
returns-in_err-cell c =
    let s = c.args.storage.now in
    let k = c.loop.counter in
    of_some (cell_pool s c.args.id) (λ p. cells_left s c.loop.place ≡ drop k p.cells) (λ p. c.from_residual-in_err-cell.result ≡ slice_get p.cells c.args.i)
    (λ p there left. c.from_residual-in_err-cell.ensures
    ∙ sym (none_left (cells_left s c.loop.place) p.cells k left c.args.i c.in_err-cell.ensures.none (omega arith)))
    c.loop.invariant.left

pub returns : goal.returns
returns c =
    let s = c.args.storage.now in
    let k = c.loop.counter in
    of_some (cell_pool s c.args.id) (λ p. cells_left s c.loop.place ≡ drop k p.cells) (λ p. Some c.in_ok-cell.cell ≡ slice_get p.cells c.args.i)
    (λ p there left.
    let e : c.args.i ≡ k = omega arith in
    sym (ap (slice_get p.cells) e ∙ here_left (cells_left s c.loop.place) p.cells k c.in_ok-cell.cell (cells_left s c.in_ok-cell.field-0-1) left c.in_ok-cell.ensures.next))
    c.loop.invariant.left
