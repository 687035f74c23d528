-- Laws of the exchange of a machine and its changes.
use Rattle.std.specs.Prelude.{◌≡◌, ◌↔◌, ℕ, ◌*◌, true, false, IsSome}
use Rattle.vsm_machine.specs.declared.machine.Machine.{Machine}
use Rattle.vsm_machine.specs.declared.machine.MachineChange.{MachineChange}
use Rattle.vsm_machine.specs.Changes.{MachineState, Difference, shown, means, fit, overlay, CanSwap, Swaps}

-- A change that was exchanged can be exchanged back. The machine then has the settings, the storage and the names with
-- their words that it had, and the change means what it meant, to the storage and to the names.
abbrev pub SwapsLeadBack : Type 0
SwapsLeadBack = (m : Machine) (c : MachineChange) (n : Machine) (d : MachineChange) → CanSwap m c → Swaps m c n d
    → CanSwap n d
    × ((u : Machine) (e : MachineChange) → Swaps n d u e → (shown u ≡ shown m) × (means u e ≡ means m c))

-- A change that fits has a frame for each page that it assigns, and for no other: a page's frame has the byte of its
-- first address.
abbrev pub FramesAreExact : Type 0
FramesAreExact = (m : MachineState) (d : Difference) → fit m d → (page : ℕ)
    → IsSome (d.storage.frames (4096 * page))
    ↔ ((m.storage.unassigned page ≡ true) × ((overlay m d).storage.unassigned page ≡ false))
