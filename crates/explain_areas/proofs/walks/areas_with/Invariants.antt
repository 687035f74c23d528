use Rattle.std.proofs.Common.{◌≡◌, ◌++◌, ℕ, Option, flat_map, length}
use Rattle.vsm_model.specs.declared.Subpool.{Subpool}
use Rattle.subpool_storage.specs.Order.{subpools_in_order}
use Rattle.storage_core.specs.Meaning.{state_in_place}
use Rattle.storage_core.specs.Walks.{IsSubpoolPlace, subpools_left}
use Rattle.explain_areas.specs.Areas.{areas_of}
use Rattle.explain_areas.specs.Ahead.{AreLinesOf}
use Rattle.explain_areas.proofs.walks.areas_with.Given as goal

abbrev pub invariant-loop-subpool : goal.invariant-loop-subpool
invariant-loop-subpool l = record {
  place : IsSubpoolPlace l.storage l.place;
  areas : (f : Subpool → ℕ → Option ℕ) → ((p : Subpool) → AreLinesOf l.lines l.storage p (f p))
      → l.areas.items ++ flat_map (λ p. areas_of p (f p)) (subpools_left l.storage l.place)
      ≡ flat_map (λ p. areas_of p (f p)) (subpools_in_order (state_in_place l.storage).subpools);
}

abbrev pub decreases-loop-subpool : goal.decreases-loop-subpool
decreases-loop-subpool l = length (subpools_left l.storage l.place)
