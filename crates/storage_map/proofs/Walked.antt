-- The subpools and sharers of a storage that a walk by places goes over.
use Rattle.std.proofs.Common.{◌≡◌, ◌∷◌, sym, ap, ◌∙◌}
use Rattle.storage_changes.specs.MapLists.{SharersAreShown}
use Rattle.subpool_set.specs.Pools as pools
use Rattle.subpool_set.specs.declared.places.SubpoolPlace.{SubpoolPlace}
use Rattle.subpool_set.specs.declared.sharers.SharerPlace.{SharerPlace}
use Rattle.storage_core.specs.declared.storage.Storage.{Storage}
use Rattle.storage_core.specs.Meaning.{state_in_place, state_of}
use Rattle.storage_core.specs.Walks.{subpools_left, subpool_before, sharers_left}
use Rattle.vsm_model.specs.declared.Subpool.{Subpool}
use Rattle.vsm_model.specs.Map.{sharers}

-- the next subpool is the one before the place after it
pub next_before : (s : Storage) (at behind : SubpoolPlace) (p : Subpool) → subpools_left s at ≡ p ∷ subpools_left s behind → subpool_before s behind ≡ p
    → subpools_left s at ≡ subpool_before s behind ∷ subpools_left s behind
next_before s at behind p next before = next ∙ ap (λ (q : Subpool). q ∷ subpools_left s behind) (sym before)

-- the sharers of the plain machine are those from the first place on
pub sharers_begin : SharersAreShown → (s : Storage) (front : SharerPlace) (p : Subpool)
    → sharers_left s front p ≡ pools.sharers (state_in_place s).subpools.sight p.number p.owner
    → sharers (state_of s) p.number p.owner ≡ sharers_left s front p
sharers_begin shown s front p all = shown (state_in_place s) p.number p.owner ∙ sym all
