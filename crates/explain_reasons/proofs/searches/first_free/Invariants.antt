use Rattle.std.proofs.Common.{◌-◌, length, drop}
use Rattle.run_set.specs.RunSet.{place_index}
use Rattle.subpool_storage.specs.Extents.{free_areas}
use Rattle.storage_core.specs.Meaning.{state_in_place}
use Rattle.storage_core.specs.Walks.{IsFreeAreaPlace}
use Rattle.explain_reasons.proofs.SearchLemmas.{AreLeft}
use Rattle.explain_reasons.proofs.searches.first_free.Given as goal

abbrev pub invariant-loop-free : goal.invariant-loop-free
invariant-loop-free l =
    let areas = free_areas (state_in_place l.storage).subpools l.fn.subpool in
    record {
      place : IsFreeAreaPlace l.storage l.fn.subpool l.place (place_index l.place.place);
      left : AreLeft areas l.fn.area.start (drop (place_index l.place.place) areas);
    }

abbrev pub decreases-loop-free : goal.decreases-loop-free
decreases-loop-free l =
    length (free_areas (state_in_place l.storage).subpools l.fn.subpool) - place_index l.place.place
