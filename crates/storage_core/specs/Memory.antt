-- How much memory a storage and its changes have.
use Rattle.std.specs.Prelude.{◌≡◌, ℕ}
use Rattle.raw_region.specs.Pages.{has_table, SameTables}
use Rattle.run_set.specs.Runs.{Run}
use Rattle.vsm_elements.specs.Store.{made}
use Rattle.storage_swap.specs.declared.storage.Parts.{Parts}
use Rattle.storage_swap.specs.Exchange.{SameFrames}
use Rattle.storage_swap.specs.Growth.{MakesElements, MakesForPages}

-- No element, no frame and no table was made, and the same numbers of elements and frames are spare: so the same number
-- of elements is live, and the same number of frames is in tables and changes.
pub record SameMemory (p t : Parts) : Type 0 where
  pub as_many : made t.elements ≡ made p.elements
  pub spare : t.elements.spare ≡ p.elements.spare
  pub frames : SameFrames p.region t.region
  pub tables : SameTables p.region t.region

-- no element, no frame and no table was made
pub record MakesNone (p t : Parts) : Type 0 where
  pub elements : made t.elements ≡ made p.elements
  pub frames : t.region.made ≡ p.region.made
  pub tables : (page : ℕ) → has_table t.region page ≡ has_table p.region page

-- For n elements and the pages of a run, at most a block of elements was made beyond these and the live ones, no frame
-- beyond these and those that weren't spare, and a table only for a segment of these pages.
pub record Makes (p t : Parts) (n : ℕ) (run : Run) : Type 0 where
  pub elements : MakesElements p.elements t.elements n
  pub pages : MakesForPages p.region t.region run
