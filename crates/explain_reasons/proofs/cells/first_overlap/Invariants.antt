use Rattle.std.proofs.Common.{◌≡◌, ◌*◌, length}
use Rattle.std.specs.Prelude.{option_map}
use Rattle.storage_changes.specs.TableOrder.{rows_behind}
use Rattle.storage_core.specs.Meaning.{state_of}
use Rattle.vsm_model.specs.Regions.{doublewords}
use Rattle.explain_reasons.specs.Cells.{overlap_text}
use Rattle.explain_reasons.proofs.cells.first_overlap.Given as goal

abbrev pub invariant-loop-id : goal.invariant-loop-id
invariant-loop-id l =
    let table = (state_of l.storage).cell_pools in
    overlap_text l.r.address (8 * doublewords l.r.length) (rows_behind table (option_map (λ n. n.bytes) l.after))
    ≡ overlap_text l.r.address (8 * doublewords l.r.length) table

abbrev pub decreases-loop-id : goal.decreases-loop-id
decreases-loop-id l = length (rows_behind (state_of l.storage).cell_pools (option_map (λ n. n.bytes) l.after))
