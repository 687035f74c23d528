-- A storage before the first request.
use Rattle.std.specs.Prelude.{◌≡◌, ℕ, ◌<◌, ◌≤◌, ◌==◌, Some, None, IsSome, IsTrue, true, if◌then◌else◌}
use Rattle.vsm_elements.specs.Store.{at, made}
use Rattle.raw_region.specs.Pages.{has_segment}
use Rattle.vsm_model.specs.declared.limits.Settings.{Settings}
use Rattle.vsm_model.specs.Regions.{in_a_region}
use Rattle.vsm_model.specs.State.{first_state}
use Rattle.subpool_storage.specs.Subpools.{no_subpools, with_own}
use Rattle.storage_changes.specs.State.{StorageState}
use Rattle.storage_changes.specs.Meaning.{model_of}
use Rattle.storage_swap.specs.declared.storage.Parts.{Parts}
use Rattle.storage_swap.specs.Storage.{hold, state_of, Stand, IsFrameless}

-- task 1 is current, its registers are zero, it owns and sees an empty subpool 0, and no page is assigned
abbrev pub first_storage : Settings → StorageState
first_storage settings =
    record {
      tasks = record {
        current = 1;
        parents = λ task. if task == 1 then Some 0 else None;
        words = λ task register. 0;
      };
      subpools = with_own no_subpools (record { number = 0; owner = 1 }) true;
      unassigned = in_a_region settings;
      bytes = λ a. None;
    }

-- at most a block of elements was made, and no frame
pub record StartsSmall (p : Parts) : Type 0 where
  pub elements : made p.elements ≤ 128
  pub frames : p.region.made ≡ 0

-- The storage is that, each live element is its own, none is set aside, and no frame is out. Each page of the regions
-- can have a table. No more was made for it than it needs, and the rest of a block.
pub record IsFresh (settings : Settings) (p : Parts) : Type 0 where
  pub shows : state_of p ≡ first_storage settings
  pub stands : Stand p
  pub once : (i : ℕ) → hold p i ≤ 1
  pub frameless : IsFrameless p
  pub all : (i : ℕ) → IsSome (at p.elements i) → 0 < hold p i
  pub aside : p.elements.aside ≡ 0
  pub out : p.region.out ≡ 0
  pub segments : (page : ℕ) → in_a_region settings page ≡ true → IsTrue (has_segment p.region page)
  pub small : StartsSmall p

-- on the plain machine it is the first state
abbrev pub FirstIsFirst : Type 0
FirstIsFirst = (settings : Settings) → model_of (first_storage settings) ≡ first_state
