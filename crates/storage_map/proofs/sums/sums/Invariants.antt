use Rattle.std.proofs.Common.{◌≡◌, ◌+◌, true, false, length}
use Rattle.storage_changes.specs.MapTotals.{sum_of, subpool_pages, subpool_free, all_pages, all_free}
use Rattle.storage_core.specs.Meaning.{state_in_place}
use Rattle.storage_core.specs.Walks.{IsSubpoolPlace, subpools_left}
use Rattle.storage_map.proofs.sums.sums.Given as goal

abbrev pub invariant-loop-behind : goal.invariant-loop-behind
invariant-loop-behind l =
    let m = (state_in_place l.storage).subpools in
    let rest = subpools_left l.storage l.place in
    record {
      place : IsSubpoolPlace l.storage l.place;
      low : l.pages.low + sum_of (subpool_pages m true) rest ≡ all_pages m true;
      high : l.pages.high + sum_of (subpool_pages m false) rest ≡ all_pages m false;
      free : l.free + sum_of (subpool_free m) rest ≡ all_free m;
    }

abbrev pub decreases-loop-behind : goal.decreases-loop-behind
decreases-loop-behind l = length (subpools_left l.storage l.place)
