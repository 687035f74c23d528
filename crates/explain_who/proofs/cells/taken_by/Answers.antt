use Rattle.std.proofs.Common.{sym, ◌∙◌}
use Rattle.storage_core.specs.Meaning.{state_of}
use Rattle.explain_who.proofs.CellPools.{none_takes}
use Rattle.explain_who.proofs.cells.taken_by.Goals as goal

pub returns-else-is_in_cells : goal.returns-else-is_in_cells
returns-else-is_in_cells c =
    sym (none_takes c.args.subpool c.args.address (state_of c.args.storage.now).cell_pools (sym c.is_in_cells.ensures ∙ c.if-is_in_cells.false))
