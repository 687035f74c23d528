use Rattle.std.proofs.Common.{flat_map, ◌-◌, length, drop}
use Rattle.run_set.specs.RunSet.{place_index}
use Rattle.subpool_storage.specs.Extents.{extents}
use Rattle.storage_core.specs.Meaning.{state_in_place}
use Rattle.storage_core.specs.Walks.{subpool_before, IsExtentPlace}
use Rattle.storage_map.specs.Lines.{extent_line}
use Rattle.storage_map.proofs.Remaining.{Remains}
use Rattle.storage_map.proofs.areas.put_extents.Given as goal

abbrev pub invariant-loop-run : goal.invariant-loop-run
invariant-loop-run g l =
    let all = extents (state_in_place l.storage).subpools (subpool_before l.storage l.fn.place) in
    record {
      place : IsExtentPlace l.storage (subpool_before l.storage l.fn.place) l.cursor (place_index l.cursor.place);
      text : Remains (g.W.Write.contents l.fn.writer) (g.W.Write.contents l.writer) l.fn.gathered l.gathered (flat_map extent_line all) (flat_map extent_line (drop (place_index l.cursor.place) all));
    }

abbrev pub decreases-loop-run : goal.decreases-loop-run
decreases-loop-run g l = length (extents (state_in_place l.storage).subpools (subpool_before l.storage l.fn.place)) - place_index l.cursor.place
