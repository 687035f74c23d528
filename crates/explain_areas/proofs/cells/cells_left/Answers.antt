use Rattle.std.proofs.Common.{◌/◌, ap, ◌∙◌}
use Rattle.std.specs.Prelude.{unwrap_or}
use Rattle.storage_core.specs.Meaning.{state_of}
use Rattle.vsm_model.specs.Names.{NamedState}
use Rattle.vsm_model.specs.State.{State}
use Rattle.explain_standing.specs.NumberMaps.{number_in}
use Rattle.explain_areas.proofs.CellWalks.{left_cells}
use Rattle.explain_areas.proofs.cells.cells_left.Goals as goal

pub returns : goal.returns
returns c = λ settings xs h.
    let is = ap (λ (s : State). s.cell_pools) (c.storage.ensures.state ∙ ap (λ (m : NamedState). m.storage) h.present) in
    left_cells settings xs c.cells_with.result (λ cells. cells.items) (λ cell. unwrap_or (number_in c.args.carried.now.cells (cell / 4)) 0) (state_of c.storage.result.now).cell_pools is
    (λ cell here. ap (λ o. unwrap_or o 0) (h.cells cell here)) c.cells_with.ensures
