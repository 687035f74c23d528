-- Laws of places among subpools and among the tasks that share one.
use Rattle.std.specs.Prelude.{◌≡◌, ℕ, ◌<◌}
use Rattle.vsm_elements.specs.Store.{Store, at}
use Rattle.vsm_model.specs.declared.Subpool.{Subpool}
use Rattle.subpool_set.specs.declared.places.SubpoolPlace.{SubpoolPlace}
use Rattle.subpool_set.specs.declared.sharers.SharerPlace.{SharerPlace}
use Rattle.subpool_storage.specs.declared.storage.SubpoolStorage.{SubpoolStorage}
use Rattle.subpool_storage.specs.SubpoolStorage.{hold, Stands, IsSubpoolPlace}
use Rattle.subpool_storage.specs.SubpoolStorage.{subpools_left, sharers_left}

-- if the elements that it holds are as they were, a place stays one, with what is left after it, and so do the sharers
abbrev pub PlacesStay : Type 0
PlacesStay = (s t : Store) (q : SubpoolStorage) → Stands s q → ((i : ℕ) → 0 < hold s q i → at t i ≡ at s i)
    → ((place : SubpoolPlace) → IsSubpoolPlace s q place
    → IsSubpoolPlace t q place × (subpools_left t q place ≡ subpools_left s q place))
    × ((place : SharerPlace) (p : Subpool) → sharers_left t q place p ≡ sharers_left s q place p)
