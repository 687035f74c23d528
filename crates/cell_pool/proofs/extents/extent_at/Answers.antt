use Rattle.std.proofs.Common.{◌∙◌, Some, sym, ap}
use Rattle.std.specs.Prelude.{option_map}
use Rattle.row_table.specs.declared.row.Row.{Row}
use Rattle.cell_pool.specs.Items.{extent_of}
use Rattle.cell_pool.proofs.NumberLemmas.{extent_of_number}
use Rattle.cell_pool.proofs.extents.extent_at.Goals as goal

pub returns-in-Some : goal.returns-in-Some
returns-in-Some c =
    ap Some c.extent_of.ensures ∙ sym (extent_of_number c.args.elements.now c.args.extents.now c.requires.table c.requires.numbered c.args.number
    ∙ ap (option_map (λ (r : Row). extent_of r.words)) (sym c.find.ensures ∙ c.in-Some.is))

pub returns-in-None : goal.returns-in-None
returns-in-None c =
    sym (extent_of_number c.args.elements.now c.args.extents.now c.requires.table c.requires.numbered c.args.number
    ∙ ap (option_map (λ (r : Row). extent_of r.words)) (sym c.find.ensures ∙ c.in-None.is))
