use Rattle.std.proofs.Common.{◌≡◌, ◌+◌, ◌*◌, ◌∷◌, [], sym, subst, arith}
use Rattle.service_laws.proofs.CellLists.{times_more}
use Rattle.vsm_model.specs.CellPools.{cells_from}
use Rattle.explain_areas.specs.Cells.{AddsCells}
use Rattle.explain_areas.proofs.CellWalks.{adds_both, adds_none, cells_more}
use Rattle.explain_areas.proofs.cells.add_extent.Goals as goal

pub loop-n-init : goal.loop-n-init
loop-n-init c = record { at = omega arith; cells = adds_none c.args.storage.now c.args.pool.now c.args.cells.now.items }

pub overflow_add-cell : goal.overflow_add-cell
overflow_add-cell c =
    let size = c.args.pool.now.settings.size in
    let room = times_more c.loop-n._n c.args.extent.count size c.loop-n-test.true in
    omega (arith, room, c.loop-n.invariant.at, c.requires.end)

pub loop-n-preserved : goal.loop-n-preserved
loop-n-preserved c =
    let s = c.args.storage.now in
    let p = c.args.pool.now in
    let size = p.settings.size in
    let start = c.args.extent.start in
    let n = c.loop-n._n in
    let old = c.args.cells.now.items in
    let new = c.add_cell.new.cells.items in
    record {
      at = omega (arith, c.loop-n.invariant.at);
      cells = subst (λ cells. AddsCells s p cells old new) (sym (cells_more size start n))
          (adds_both s p (cells_from size start n) ((start + n * size) ∷ []) old c.loop-n.cells.items new c.loop-n.invariant.cells
          (subst (λ cell. AddsCells s p (cell ∷ []) c.loop-n.cells.items new) c.loop-n.invariant.at c.in_ok-add_cell.ensures));
    }

pub returns : goal.returns
returns c =
    let p = c.args.pool.now in
    let last : c.loop-n._n ≡ c.args.extent.count = omega arith in
    subst (λ n. AddsCells c.args.storage.now p (cells_from p.settings.size c.args.extent.start n) c.args.cells.now.items c.loop-n.cells.items) last c.loop-n.invariant.cells
