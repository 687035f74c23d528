-- A record that changed sides with the storage.
use Rattle.std.specs.Prelude.{◌≡◌, ℕ, ◌+◌, ◌≤◌, List, length, IsSome, IsTrue}
use Rattle.vsm_elements.specs.Store.{made_and_aside}
use Rattle.vsm_elements.specs.Owners.{Moves}
use Rattle.raw_region.specs.Frames.{PageFrame}
use Rattle.raw_region.specs.Pages.{Pages, has_table, SameTables}
use Rattle.raw_region.specs.Parked.{held_at}
use Rattle.subpool_storage.specs.declared.storage.SubpoolStorage.{SubpoolStorage}
use Rattle.storage_changes.specs.declared.record.Record.{Record}
use Rattle.storage_changes.specs.Steps.{step}
use Rattle.storage_changes.specs.Fits.{Fits}
use Rattle.storage_swap.specs.declared.storage.Parts.{Parts}
use Rattle.storage_swap.specs.Storage.{hold_with, walk_of, StandsWith}

-- each of the frames has a place in a table
abbrev pub HavePlaces : Parts → List PageFrame → Type 0
HavePlaces p frames = (page : ℕ) → IsSome (held_at frames page) → IsTrue (has_table p.region page)

-- no frame is made, and the same number is spare
pub record SameFrames (old new : Pages) : Type 0 where
  pub spare : new.spare ≡ old.spare
  pub made : new.made ≡ old.made

-- The storage took the record's step, whatever elements are kept, and no element was made. The frames that the change
-- was given before and after are `given` and `given'`, the subpools that it has parked `parked` and `parked'`.
pub record Exchanges (p t : Parts) (given given' : List PageFrame) (parked parked' : SubpoolStorage) (r : Record)
    : Type 0 where
  pub stands : StandsWith t parked'
  pub moves : Moves p.elements t.elements (hold_with p parked) (hold_with t parked')
  pub as_many : made_and_aside t.elements ≡ made_and_aside p.elements
  pub steps :
      (kept : ℕ) → kept ≤ p.elements.spare → Fits (walk_of p given parked kept) r
      → (kept ≤ t.elements.spare) × (walk_of t given' parked' kept ≡ step (walk_of p given parked kept) r)
  pub out : t.region.out + length given ≡ p.region.out + length given'
  pub tables : SameTables p.region t.region
  pub frames : SameFrames p.region t.region
  pub places : HavePlaces p given → HavePlaces t given'
