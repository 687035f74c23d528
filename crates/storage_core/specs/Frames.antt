-- Which frames a change has.
use Rattle.std.specs.Prelude.{◌≡◌, ℕ, ◌/◌, false, IsSome}
use Rattle.storage_changes.specs.State.{StorageState}
use Rattle.storage_changes.specs.Changes.{Change, overlay}

-- Each page that it has a frame for is assigned once it's applied. A change that fits has frames only for unassigned
-- pages, and for each page that becomes assigned; so it has them for exactly those.
abbrev pub AssignsItsFrames : StorageState → Change → Type 0
AssignsItsFrames m d = (a : ℕ) → IsSome (d.frames a) → (overlay m d).unassigned (a / 4096) ≡ false
