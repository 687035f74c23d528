use Rattle.std.proofs.Common.{ℕ, List, flat_map, length}
use Rattle.subpool_storage.specs.Order.{subpools_in_order}
use Rattle.vsm_model.specs.declared.Subpool.{Subpool}
use Rattle.storage_core.specs.Meaning.{state_in_place, state_of, settings_of}
use Rattle.storage_core.specs.Walks.{IsSubpoolPlace, subpools_left}
use Rattle.vsm_model.specs.Map.{subpool_lines}
use Rattle.storage_map.proofs.Remaining.{Remains}
use Rattle.storage_map.proofs.subpools.put_subpools.Given as goal

abbrev pub invariant-loop-subpool : goal.invariant-loop-subpool
invariant-loop-subpool g l =
    let lines : Subpool → List ℕ = λ p. subpool_lines (settings_of l.storage) (state_of l.storage) p.number p.owner in
    record {
      place : IsSubpoolPlace l.storage l.place;
      text : Remains (g.W.Write.contents l.fn.writer) (g.W.Write.contents l.writer) l.fn.gathered l.gathered
          (flat_map lines (subpools_in_order (state_in_place l.storage).subpools))
          (flat_map lines (subpools_left l.storage l.place));
    }

abbrev pub decreases-loop-subpool : goal.decreases-loop-subpool
decreases-loop-subpool g l = length (subpools_left l.storage l.place)
