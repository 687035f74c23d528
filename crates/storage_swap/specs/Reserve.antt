-- A change that was reserved.
use Rattle.std.specs.Prelude.{◌≡◌, ℕ, ◌+◌, ◌*◌, true, List, [], ◌∷◌, length, IsTrue}
use Rattle.std.specs.Prelude.{Option, Some, None}
use Rattle.vsm_elements.specs.Store.{SameElements}
use Rattle.vsm_elements.specs.Owners.{Moves}
use Rattle.raw_region.specs.Pages.{Pages, has_table, has_segment, SamePages}
use Rattle.run_set.specs.Runs.{Run}
use Rattle.vsm_model.specs.declared.Subpool.{Subpool}
use Rattle.subpool_storage.specs.Extents.{extents}
use Rattle.subpool_storage.specs.Subpools.{Subpools, no_subpools, with_own}
use Rattle.storage_changes.specs.declared.record.Record.{Record}
use Rattle.storage_changes.specs.declared.record.Record.TheVariants.{Queues}
use Rattle.storage_changes.specs.Changes.{Change, unassigned_records}
use Rattle.storage_swap.specs.declared.storage.Parts.{Parts}
use Rattle.storage_swap.specs.Storage.{hold, state_of}
use Rattle.storage_swap.specs.declared.change.Change.{Change as TheChange}
use Rattle.storage_swap.specs.Swap.{means, change_holds, Ready}

-- no table is lost
pub record MoreTables (old new : Pages) : Type 0 where
  pub tables : (page : ℕ) → IsTrue (has_table old page) → IsTrue (has_table new page)
  pub segments : (page : ℕ) → has_segment new page ≡ has_segment old page

-- Spare elements, spare frames and tables may have been made, and nothing else changed.
pub record Grown (p t : Parts) : Type 0 where
  pub same : t ≡ record p { elements = t.elements; region = t.region }
  pub elements : SameElements p.elements t.elements
  pub aside : t.elements.aside ≡ p.elements.aside
  pub pages : SamePages p.region t.region
  pub tables : MoreTables p.region t.region
  pub out : t.region.out ≡ p.region.out

-- The change exists, the storage is as it was, and elements and frames that nobody had are the change's, or set aside
-- for it.
pub record Reserves (p : Parts) (d : Change) (c : TheChange) (t : Parts) : Type 0 where
  pub ready : Ready t c
  pub shows : state_of t ≡ state_of p
  pub meaning : means t.elements c ≡ d
  pub held : (i : ℕ) → hold t i ≡ hold p i
  pub moves : Moves p.elements t.elements (λ i. 0) (change_holds t.elements c)
  pub aside : t.elements.aside ≡ p.elements.aside + c.blanks
  pub tables : MoreTables p.region t.region
  pub out : t.region.out ≡ p.region.out + length c.frames

-- How many elements a change takes, with this many records and blank elements: if a subpool is emptied, one more for
-- it, and a record, and a record and a blank element for each of its extents.
abbrev pub elements_for : Subpools → Option Subpool → ℕ → ℕ → ℕ
elements_for m None records blanks = records + blanks
elements_for m (Some p) records blanks = 2 + 2 * length (extents m p) + (records + blanks)

-- the extents of the subpool that is emptied; none if none is
abbrev pub emptied_extents : Subpools → Option Subpool → List Run
emptied_extents m None = []
emptied_extents m (Some p) = extents m p

-- the records that precede those that are given, if the extents are these
abbrev pub emptying : Option Subpool → List Run → List Record
emptying None runs = unassigned_records runs
emptying (Some p) runs = Queues (record { subpool = p }) ∷ unassigned_records runs

-- the subpools that are parked: an empty one under the name of the one that is emptied, or none
abbrev pub parked_under : Option Subpool → Subpools
parked_under None = no_subpools
parked_under (Some p) = with_own no_subpools p true
