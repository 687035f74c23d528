use Rattle.std.proofs.Common.{◌≡◌, ◌∙◌, sym, ap, arith, ◌+◌, drop, Some}
use Rattle.std.specs.Prelude.{slice_get}
use Rattle.storage_map.specs.Cells.{cell_pool, extents_left}
use Rattle.storage_map.proofs.CellsInOrder.{of_some, step_left, none_left, here_left}
use Rattle.storage_map.proofs.positions.cell_extent_at.Goals as goal

pub returns-in_err-place : goal.returns-in_err-place
returns-in_err-place c =
    let s = c.args.storage.now in
    let k = c.loop.counter in
    of_some (cell_pool s c.args.id) (λ p. extents_left s c.loop.place ≡ drop k p.extents) (λ p. c.from_residual.result ≡ slice_get p.extents c.args.i)
    (λ p there left. c.from_residual.ensures
    ∙ sym (none_left (extents_left s c.loop.place) p.extents k left c.args.i c.in_err-place.ensures.none (omega (arith, c.loop-test.true))))
    c.loop.invariant.left

pub loop-preserved : goal.loop-preserved
loop-preserved c =
    let s = c.args.storage.now in
    let k = c.loop.counter in
    record {
      place = c.in_ok-place.ensures.place;
      left = of_some (cell_pool s c.args.id) (λ p. extents_left s c.loop.place ≡ drop k p.extents) (λ p. extents_left s c.in_ok-place.field-0-1 ≡ drop (k + 1) p.extents)
          (λ p there left. step_left (extents_left s c.loop.place) p.extents k left c.in_ok-place.field-0-0 (extents_left s c.in_ok-place.field-0-1) c.in_ok-place.ensures.next)
          c.loop.invariant.left;
    }

pub returns-in_err-extent : goal.returns-in_err-extent
returns-in_err-extent c =
    let s = c.args.storage.now in
    let k = c.loop.counter in
    of_some (cell_pool s c.args.id) (λ p. extents_left s c.loop.place ≡ drop k p.extents) (λ p. c.from_residual-in_err-extent.result ≡ slice_get p.extents c.args.i)
    (λ p there left. c.from_residual-in_err-extent.ensures
    ∙ sym (none_left (extents_left s c.loop.place) p.extents k left c.args.i c.in_err-extent.ensures.none (omega arith)))
    c.loop.invariant.left

pub returns : goal.returns
returns c =
    let s = c.args.storage.now in
    let k = c.loop.counter in
    of_some (cell_pool s c.args.id) (λ p. extents_left s c.loop.place ≡ drop k p.extents) (λ p. Some c.in_ok-extent.extent ≡ slice_get p.extents c.args.i)
    (λ p there left.
    let e : c.args.i ≡ k = omega arith in
    sym (ap (slice_get p.extents) e ∙ here_left (extents_left s c.loop.place) p.extents k c.in_ok-extent.extent (extents_left s c.in_ok-extent.field-0-1) left c.in_ok-extent.ensures.next))
    c.loop.invariant.left
