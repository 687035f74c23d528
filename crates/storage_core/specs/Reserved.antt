-- A change that was made of a plan.
use Rattle.std.specs.Prelude.{◌≡◌, ℕ, ◌+◌, ◌≤◌, length, Result, IfOk, IsOk, OnErr}
use Rattle.std.specs.declared.alloc.AllocError.{AllocError}
use Rattle.vsm_elements.specs.Store.{live_count}
use Rattle.run_set.specs.Runs.{Run}
use Rattle.storage_changes.specs.Changes.{Change}
use Rattle.storage_swap.specs.declared.change.Change.{Change as TheChange}
use Rattle.storage_swap.specs.Growth.{MakesElements, MakesForPages}
use Rattle.storage_swap.specs.Reserve.{Reserves}
use Rattle.storage_core.specs.declared.storage.Storage.{Storage}
use Rattle.storage_core.specs.Meaning.{settings_of}
use Rattle.storage_core.specs.Stays.{Stays}

-- It is this one, of at most this many elements and a frame for each page of a run. If memory is refused, which never
-- happens if enough is spare, the storage stays. Either way at most a block of elements is made beyond these, no frame,
-- and a table only for a segment of these pages.
pub record IsReserved (s : Storage) (d : Change) (most : ℕ) (fresh : Run) (enough : Type 0) (t : Storage)
    (result : Result TheChange AllocError) : Type 0 where
  pub ok : IfOk result (λ change. Reserves s.parts d change t.parts)
  pub frames : IfOk result (λ change. length change.frames ≡ fresh.len)
  pub few : IfOk result (λ change. change.records.count + change.blanks ≤ most)
  pub uses : IfOk result (λ _. s.parts.elements.spare ≤ t.parts.elements.spare + most)
  pub live : IfOk result (λ _. live_count t.parts.elements ≤ live_count s.parts.elements + most)
  pub made : MakesElements s.parts.elements t.parts.elements most
  pub made_for_pages : MakesForPages s.parts.region t.parts.region fresh
  pub err : OnErr result (Stays s.parts t.parts)
  pub needless : enough → IsOk result
  pub settings : settings_of t ≡ settings_of s
