-- Laws of changes next to the storage.
use Rattle.std.specs.Prelude.{◌≡◌}
use Rattle.storage_changes.specs.Changes.{Fit}
use Rattle.storage_swap.specs.declared.storage.Parts.{Parts}
use Rattle.storage_swap.specs.Storage.{state_of}
use Rattle.storage_swap.specs.declared.change.Change.{Change as TheChange}
use Rattle.storage_swap.specs.Swap.{means, Swaps}

-- A change that was exchanged can be exchanged back. The state is then as it was, and the change means what it meant.
abbrev pub SwapsLeadBack : Type 0
SwapsLeadBack = (p : Parts) (c : TheChange) (t : Parts) (d : TheChange)
    → Fit (state_of p) (means p.elements c) → Swaps p c t d
    → Fit (state_of t) (means t.elements d)
    × ((u : Parts) (e : TheChange) → Swaps t d u e
    → (state_of u ≡ state_of p) × (means u.elements e ≡ means p.elements c))
