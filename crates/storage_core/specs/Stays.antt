-- A storage that stays as it is, and so do all changes apart from it.
use Rattle.std.specs.Prelude.{◌≡◌, List, [], ◌∷◌}
use Rattle.vsm_elements.specs.Store.{SameElements}
use Rattle.storage_swap.specs.declared.storage.Parts.{Parts}
use Rattle.storage_swap.specs.Storage.{state_of}
use Rattle.storage_swap.specs.declared.change.Change.{Change}
use Rattle.storage_swap.specs.Swap.{means}
use Rattle.storage_swap.specs.Apart.{AreApart, AreWhole}

-- Its state is the same, exactly the same elements are live, each change means what it meant, and what was apart or
-- whole still is.
pub record Stays (p t : Parts) : Type 0 where
  pub shows : state_of t ≡ state_of p
  pub elements : SameElements p.elements t.elements
  pub meaning : (x : Change) → AreApart p (x ∷ []) → means t.elements x ≡ means p.elements x
  pub apart : (xs : List Change) → AreApart p xs → AreApart t xs
  pub whole : (xs : List Change) → AreWhole p xs → AreWhole t xs
