use Rattle.std.proofs.Common.{length}
use Rattle.storage_core.specs.Meaning.{state_in_place}
use Rattle.storage_core.specs.Walks.{IsSubpoolPlace, subpools_left}
use Rattle.explain_report.proofs.Areas.{Gathered}
use Rattle.explain_report.proofs.walks.all_free_areas.Given as goal

abbrev pub invariant-loop-behind : goal.invariant-loop-behind
invariant-loop-behind l =
    record {
      place : IsSubpoolPlace l.storage l.place;
      gathered : Gathered (state_in_place l.storage).subpools (subpools_left l.storage l.place) l.tally;
    }

abbrev pub decreases-loop-behind : goal.decreases-loop-behind
decreases-loop-behind l = length (subpools_left l.storage l.place)
