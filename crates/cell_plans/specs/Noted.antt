-- Extents of a cell pool that were given back so far: their doublewords are in a queue of spare elements, next to the
-- change that is being made.
use Rattle.std.specs.Prelude.{◌≡◌, ℕ, ◌+◌, ◌≤◌, List, ◌++◌, length}
use Rattle.vsm_elements.specs.Store.{Store, live_count}
use Rattle.vsm_elements.specs.Owners.{times}
use Rattle.run_set.specs.Runs.{contains}
use Rattle.free_queue.specs.declared.queue.FreeQueue.{FreeQueue}
use Rattle.free_queue.specs.FreeQueue.{is_free, owned, IsFreeQueue}
use Rattle.storage_changes.specs.declared.record.Record.{Record}
use Rattle.storage_swap.specs.declared.storage.Parts.{Parts}
use Rattle.storage_swap.specs.Storage.{hold, state_of}
use Rattle.storage_swap.specs.declared.builder.ChangeBuilder.{ChangeBuilder}
use Rattle.storage_swap.specs.Builder.{builder_holds, records_in, parked_in, IsBuilding, Keeps}
use Rattle.storage_swap.specs.Growth.{MakesElements}
use Rattle.cell_plans.specs.declared.areas.FirstExtents.{FirstExtents}
use Rattle.cell_plans.specs.Areas.{first_areas}

-- The queue is well formed, and has exactly the doublewords of these extents.
pub record AreNoted (p : Parts) (given : FirstExtents) : Type 0 where
  pub queue : IsFreeQueue p.elements given.areas
  pub same : (d : ℕ) → is_free p.elements given.areas d ≡ contains d (first_areas (state_of p) given)

-- how many elements the queue has
abbrev pub noted_count : Parts → FreeQueue → ℕ
noted_count p q = length (owned p.elements q)

-- how often the change so far and the queue hold an element
abbrev pub holds_noted : Parts → ChangeBuilder → FreeQueue → ℕ → ℕ
holds_noted p b q i = builder_holds p b i + times i (owned p.elements q)

-- The change so far and the queue are well formed next to the storage, and no element has two owners.
pub record StandBeside (p : Parts) (b : ChangeBuilder) (q : FreeQueue) : Type 0 where
  pub building : IsBuilding p b
  pub queue : IsFreeQueue p.elements q
  pub once : (i : ℕ) → hold p i + holds_noted p b q i ≤ 1

-- The one change so far became the other, with the queue next to it, and the storage is as it was.
pub record BuildsBeside (s : Parts) (a : ChangeBuilder) (t : Parts) (b : ChangeBuilder) (q : FreeQueue) : Type 0 where
  pub beside : StandBeside t b q
  pub keeps : Keeps s t (builder_holds s a) (holds_noted t b q)

-- In a queue of `had` elements another area was noted, and it has `has` now: at most one more, which was spare.
pub record NotesOne (s t : Store) (had has : ℕ) : Type 0 where
  pub few : has ≤ had + 1
  pub spare : s.spare + had ≤ t.spare + has
  pub live : live_count t + had ≤ live_count s + has
  pub made : MakesElements s t 2

-- These records were added after the others, each in one element. In addition `held` elements are held, and room was
-- made for at most `room`.
pub record PushesBeside (s : Parts) (a : ChangeBuilder) (added : List Record) (held room : ℕ) (t : Parts)
    (b : ChangeBuilder) : Type 0 where
  pub records : records_in t b ≡ records_in s a ++ added
  pub parked : parked_in t b ≡ parked_in s a
  pub spare : s.elements.spare ≤ t.elements.spare + length added + held
  pub live : live_count t.elements ≤ live_count s.elements + length added + held
  pub made : MakesElements s.elements t.elements (length added + room)
