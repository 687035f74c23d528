use Rattle.std.proofs.Common.{flat_map, ◌-◌, length, drop}
use Rattle.run_set.specs.RunSet.{place_index}
use Rattle.subpool_storage.specs.Extents.{free_areas}
use Rattle.storage_core.specs.Meaning.{state_in_place}
use Rattle.storage_core.specs.Walks.{subpool_before, IsFreeAreaPlace}
use Rattle.storage_map.specs.Lines.{free_line}
use Rattle.storage_map.proofs.Remaining.{Remains}
use Rattle.storage_map.proofs.areas.put_free_areas.Given as goal

abbrev pub invariant-loop-area : goal.invariant-loop-area
invariant-loop-area g l =
    let all = free_areas (state_in_place l.storage).subpools (subpool_before l.storage l.fn.place) in
    record {
      place : IsFreeAreaPlace l.storage (subpool_before l.storage l.fn.place) l.cursor (place_index l.cursor.place);
      text : Remains (g.W.Write.contents l.fn.writer) (g.W.Write.contents l.writer) l.fn.gathered l.gathered (flat_map free_line all) (flat_map free_line (drop (place_index l.cursor.place) all));
    }

abbrev pub decreases-loop-area : goal.decreases-loop-area
decreases-loop-area g l = length (free_areas (state_in_place l.storage).subpools (subpool_before l.storage l.fn.place)) - place_index l.cursor.place
