-- A change next to the storage, and its exchange.
use Rattle.std.specs.Prelude.{◌≡◌, ℕ, ◌+◌, ◌≤◌, true, length, None}
use Rattle.vsm_elements.specs.Store.{Store, made}
use Rattle.vsm_elements.specs.Owners.{times, Moves}
use Rattle.vsm_elements.specs.Chain.{owned, IsChain}
use Rattle.vsm_elements.specs.declared.chain.Chain.{Chain}
use Rattle.raw_region.specs.Pages.{bytes_at, SamePages, SameTables}
use Rattle.subpool_storage.specs.declared.storage.SubpoolStorage.{SubpoolStorage}
use Rattle.subpool_storage.specs.SubpoolStorage.{subpools_of}
use Rattle.subpool_storage.specs.SubpoolStorage
use Rattle.subpool_storage.specs.Held.{GivenBack}
use Rattle.storage_changes.specs.Changes.{Change, overlay, inverse}
use Rattle.storage_swap.specs.declared.storage.Parts.{Parts}
use Rattle.storage_swap.specs.Storage.{hold, state_of, byte_held, StandsWith}
use Rattle.storage_swap.specs.Exchange.{HavePlaces, SameFrames}
use Rattle.storage_swap.specs.declared.change.Change.{Change as TheChange}
use Rattle.storage_swap.specs.Beside.{records_of}

-- what a change means: its records, how many blank elements it has, the bytes of the frames that it brings, and the
-- subpools that it has parked
abbrev pub means : Store → TheChange → Change
means s c =
    record {
      records = records_of s c.records;
      blanks = c.blanks;
      frames = byte_held c.frames;
      parked = subpools_of s c.parked;
    }

-- how often a chain of records and parked subpools hold an element
abbrev pub held_by : Store → Chain → SubpoolStorage → ℕ → ℕ
held_by s records parked i = times i (owned s records) + SubpoolStorage.hold s parked i

-- how often a change holds an element
abbrev pub change_holds : Store → TheChange → ℕ → ℕ
change_holds s c i = held_by s c.records c.parked i

-- the storage and a change of it together
abbrev pub both_hold : Parts → TheChange → ℕ → ℕ
both_hold p c i = hold p i + change_holds p.elements c i

-- A change next to the storage: both are well formed, no element has two owners, an unassigned page has no frame, the
-- change's blank elements are set aside, and its frames are out and have places in the tables.
pub record Ready (p : Parts) (c : TheChange) : Type 0 where
  pub stands : StandsWith p c.parked
  pub records : IsChain p.elements c.records
  pub aside : c.blanks ≤ p.elements.aside
  pub once : (i : ℕ) → both_hold p c i ≤ 1
  pub frameless : (page : ℕ) → (state_of p).unassigned page ≡ true → bytes_at p.region page ≡ None
  pub out : length c.frames ≤ p.region.out
  pub places : HavePlaces p c.frames

-- The storage is what the change means, and the change the one that leads back. Elements and frames went from the one
-- to the other, and nothing else changed: the same number of elements and frames is spare, what was set aside by others
-- stays so, and none was made.
pub record Swaps (p : Parts) (c : TheChange) (t : Parts) (d : TheChange) : Type 0 where
  pub before : Ready p c
  pub after : Ready t d
  pub shows : state_of t ≡ overlay (state_of p) (means p.elements c)
  pub turned : means t.elements d ≡ inverse (state_of p) (means p.elements c)
  pub moves : Moves p.elements t.elements (both_hold p c) (both_hold t d)
  pub spare : t.elements.spare ≡ p.elements.spare
  pub aside : t.elements.aside + c.blanks ≡ p.elements.aside + d.blanks
  pub as_many : made t.elements ≡ made p.elements
  pub out : t.region.out + length c.frames ≡ p.region.out + length d.frames
  pub tables : SameTables p.region t.region
  pub frames : SameFrames p.region t.region

-- The change's elements and frames are spare, and nothing else changed: exactly as many more of both are spare as the
-- change had, with those that were set aside for it, and none was made.
pub record Discards (p : Parts) (c : TheChange) (t : Parts) : Type 0 where
  pub before : Ready p c
  pub same : t ≡ record p { elements = t.elements; region = t.region }
  pub moves : Moves p.elements t.elements (change_holds p.elements c) (λ i. 0)
  pub pages : SamePages p.region t.region
  pub tables : SameTables p.region t.region
  pub out : t.region.out + length c.frames ≡ p.region.out
  pub spare : GivenBack (change_holds p.elements c)
      (record p.elements { spare = p.elements.spare + c.blanks }) t.elements
  pub aside : t.elements.aside + c.blanks ≡ p.elements.aside
  pub as_many : made t.elements ≡ made p.elements
  pub spare_frames : t.region.spare ≡ p.region.spare + length c.frames
  pub made : t.region.made ≡ p.region.made
