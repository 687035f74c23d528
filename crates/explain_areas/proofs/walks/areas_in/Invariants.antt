use Rattle.std.proofs.Common.{◌-◌, ◌≡◌, ◌*◌, ◌^◌, ◌≤◌, ℕ, Option, reverse, length, []}
use Rattle.run_set.specs.RunSet.{place_index}
use Rattle.subpool_storage.specs.Extents.{extents}
use Rattle.storage_core.specs.Meaning.{state_in_place}
use Rattle.explain_areas.specs.Areas.{areas_to}
use Rattle.explain_areas.specs.Ahead.{IsExtentFrom, IsFreeFrom, AreLinesOf}
use Rattle.explain_areas.proofs.walks.areas_in.Given as goal

abbrev pub invariant-loop-extent : goal.invariant-loop-extent
invariant-loop-extent l = (k : ℕ) × (k ≤ 2 ^ 20) × IsExtentFrom l.storage l.subpool l.place k × IsFreeFrom l.storage l.subpool l.free (512 * k)
    × ((f : ℕ → Option ℕ) → AreLinesOf l.lines l.storage l.subpool f → reverse l.areas.items ≡ areas_to l.subpool f (512 * k) [])

abbrev pub decreases-loop-extent : goal.decreases-loop-extent
decreases-loop-extent l = length (extents (state_in_place l.storage).subpools l.subpool) - place_index l.place.place
