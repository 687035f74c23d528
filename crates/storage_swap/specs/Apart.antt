-- The storage and the changes of a history next to each other, by counts.
use Rattle.std.specs.Prelude.{◌≡◌, ℕ, ◌+◌, ◌<◌, ◌≤◌, List, [], ◌∷◌, length, IsSome}
use Rattle.vsm_elements.specs.Store.{Store, at}
use Rattle.vsm_elements.specs.Chain.{IsChain}
use Rattle.subpool_storage.specs.SubpoolStorage
use Rattle.storage_changes.specs.Changes.{Change as Meaning, Fit}
use Rattle.storage_swap.specs.declared.storage.Parts.{Parts}
use Rattle.storage_swap.specs.Storage.{hold, state_of, Stand, IsFrameless}
use Rattle.storage_swap.specs.Exchange.{HavePlaces}
use Rattle.storage_swap.specs.declared.change.Change.{Change}
use Rattle.storage_swap.specs.Swap.{means, change_holds, Ready}

-- how often all these changes together hold an element
abbrev pub all_hold : Store → List Change → ℕ → ℕ
all_hold s [] i = 0
all_hold s (c ∷ cs) i = change_holds s c i + all_hold s cs i

-- how many blank elements they have together
abbrev pub all_blanks : List Change → ℕ
all_blanks [] = 0
all_blanks (c ∷ cs) = c.blanks + all_blanks cs

-- how many frames they have together
abbrev pub all_frames : List Change → ℕ
all_frames [] = 0
all_frames (c ∷ cs) = length c.frames + all_frames cs

-- a change's records and its parked subpools are well formed, and its frames have places in the tables
pub record ChangeStands (p : Parts) (c : Change) : Type 0 where
  pub records : IsChain p.elements c.records
  pub parked : SubpoolStorage.Stands p.elements c.parked
  pub places : HavePlaces p c.frames

abbrev pub AllStand : Parts → List Change → Type 0
AllStand p [] = Unit {0}
AllStand p (c ∷ cs) = ChangeStands p c × AllStand p cs

-- The storage and the changes are well formed, no element is held twice by all of them together, an unassigned page has
-- no frame, and the blank elements and the frames of all changes are within those that are set aside and out.
pub record AreApart (p : Parts) (cs : List Change) : Type 0 where
  pub storage : Stand p
  pub changes : AllStand p cs
  pub once : (i : ℕ) → hold p i + all_hold p.elements cs i ≤ 1
  pub frameless : IsFrameless p
  pub aside : all_blanks cs ≤ p.elements.aside
  pub out : all_frames cs ≤ p.region.out

-- Also, each live element is held by one of them, and each element that is set aside and each frame that is out is a
-- change's: nothing is lost.
pub record AreWhole (p : Parts) (cs : List Change) : Type 0 where
  pub apart : AreApart p cs
  pub all : (i : ℕ) → IsSome (at p.elements i) → 0 < hold p i + all_hold p.elements cs i
  pub all_aside : all_blanks cs ≡ p.elements.aside
  pub all_out : all_frames cs ≡ p.region.out

-- The change is next to the storage, and its records fit where they are applied.
pub record CanSwap (p : Parts) (c : Change) : Type 0 where
  pub ready : Ready p c
  pub fits : Fit (state_of p) (means p.elements c)

-- what a change means, whose records are in the elements of the storage
abbrev pub meaning : Parts → Change → Meaning
meaning p c = means p.elements c
