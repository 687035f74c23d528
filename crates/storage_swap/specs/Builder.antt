-- A change that is being made: records one after another, and the subpools that it has parked.
use Rattle.std.specs.Prelude.{◌≡◌, ℕ, ◌+◌, ◌<◌, ◌≤◌, true, List, [], ◌++◌, length}
use Rattle.vsm_elements.specs.Store.{at, live_count}
use Rattle.vsm_elements.specs.Owners.{Moves}
use Rattle.vsm_elements.specs.Chain.{last_or, links}
use Rattle.vsm_model.specs.declared.Subpool.{Subpool}
use Rattle.subpool_storage.specs.Subpools.{Subpools, with_own}
use Rattle.subpool_storage.specs.SubpoolStorage.{subpools_of}
use Rattle.storage_changes.specs.declared.record.Record.{Record}
use Rattle.storage_changes.specs.Changes.{Change, change_of, no_pages}
use Rattle.storage_swap.specs.declared.storage.Parts.{Parts}
use Rattle.storage_swap.specs.Storage.{hold, state_of}
use Rattle.storage_swap.specs.declared.builder.ChangeBuilder.{ChangeBuilder}
use Rattle.storage_swap.specs.declared.change.Change.{Change as TheChange}
use Rattle.storage_swap.specs.Beside.{records_of}
use Rattle.storage_swap.specs.Growth.{MakesElements}
use Rattle.storage_swap.specs.Swap.{means, change_holds, Ready}

-- the change so far: without a blank element, and without a frame
abbrev pub so_far : ChangeBuilder → TheChange
so_far b = record { records = b.records; blanks = 0; frames = []; parked = b.parked }

-- its records, in their order
abbrev pub records_in : Parts → ChangeBuilder → List Record
records_in p b = records_of p.elements b.records

-- the subpools that it has parked
abbrev pub parked_in : Parts → ChangeBuilder → Subpools
parked_in p b = subpools_of p.elements b.parked

-- what it means with this many blank elements and no frame
abbrev pub meaning_with : Parts → ChangeBuilder → ℕ → Change
meaning_with p b blanks = record (change_of (records_in p b) blanks no_pages) { parked = parked_in p b }

-- how often it holds an element
abbrev pub builder_holds : Parts → ChangeBuilder → ℕ → ℕ
builder_holds p b = change_holds p.elements (so_far b)

-- The change so far is well formed next to the storage, and its last record is known.
pub record IsBuilding (p : Parts) (b : ChangeBuilder) : Type 0 where
  pub ready : Ready p (so_far b)
  pub last : b.last ≡ last_or 0 (links p.elements b.records)

-- The storage is as it was. Next to it elements were given back and taken: those that something had held, and those
-- that it holds. None was set aside.
pub record Keeps (s t : Parts) (had has : ℕ → ℕ) : Type 0 where
  pub same : t ≡ record s { elements = t.elements }
  pub shows : state_of t ≡ state_of s
  pub held : (i : ℕ) → hold t i ≡ hold s i
  pub kept : (i : ℕ) → 0 < hold s i → at t.elements i ≡ at s.elements i
  pub moves : Moves s.elements t.elements had has
  pub aside : t.elements.aside ≡ s.elements.aside

-- The one change so far became the other, and the storage is as it was.
pub record Builds (s : Parts) (a : ChangeBuilder) (t : Parts) (b : ChangeBuilder) : Type 0 where
  pub building : IsBuilding t b
  pub keeps : Keeps s t (builder_holds s a) (builder_holds t b)

-- These records were added after the others, each in one element.
pub record Pushes (s : Parts) (a : ChangeBuilder) (added : List Record) (t : Parts) (b : ChangeBuilder)
    : Type 0 where
  pub records : records_in t b ≡ records_in s a ++ added
  pub parked : parked_in t b ≡ parked_in s a
  pub spare : s.elements.spare ≤ t.elements.spare + length added
  pub live : live_count t.elements ≤ live_count s.elements + length added
  pub made : MakesElements s.elements t.elements (length added)

-- An empty subpool of this name was parked, in one element.
pub record Parks (s : Parts) (a : ChangeBuilder) (subpool : Subpool) (t : Parts) (b : ChangeBuilder) : Type 0 where
  pub records : records_in t b ≡ records_in s a
  pub parked : parked_in t b ≡ with_own (parked_in s a) subpool true
  pub spare : s.elements.spare ≤ t.elements.spare + 1
  pub live : live_count t.elements ≤ live_count s.elements + 1
  pub made : MakesElements s.elements t.elements 1

-- The change is made, with this many blank elements, which were set aside, and no frame, and the storage is as it was.
pub record Finishes (s : Parts) (b : ChangeBuilder) (blanks : ℕ) (t : Parts) (c : TheChange) : Type 0 where
  pub ready : Ready t c
  pub same : t ≡ record s { elements = t.elements }
  pub shows : state_of t ≡ state_of s
  pub held : (i : ℕ) → hold t i ≡ hold s i
  pub moves : Moves s.elements t.elements (builder_holds s b) (change_holds t.elements c)
  pub aside : t.elements.aside ≡ s.elements.aside + blanks
  pub meaning : means t.elements c ≡ meaning_with s b blanks
  pub no_frame : c.frames ≡ []
