-- That the storage and the changes of a history are apart, or whole, has one proof at most.
use Rattle.std.specs.Prelude.{List, [], ◌∷◌}
use Rattle.std.proofs.Props.{props}
use mathlib.Core.HLevel.{Unit-prop, ×_prop}
use Rattle.vsm_elements.specs.Props.{IsChain-prop}
use Rattle.subpool_storage.specs.Props.{Stands-prop}
use Rattle.storage_changes.specs.Props.{Fit-prop}
use Rattle.storage_swap.specs.declared.storage.Parts.{Parts}
use Rattle.storage_swap.specs.Props.{Stand-prop, IsFrameless-prop, HavePlaces-prop}
use Rattle.storage_swap.specs.declared.change.Change.{Change}
use Rattle.storage_swap.specs.Props.{Ready-prop}
use Rattle.storage_swap.specs.Apart.{ChangeStands, AllStand, AreApart, AreWhole, CanSwap}

pub ChangeStands-prop : (p : Parts) (c : Change) → IsProp (ChangeStands p c)
ChangeStands-prop p c = hlevel (IsChain-prop, Stands-prop, HavePlaces-prop, props)

pub AllStand-prop : (p : Parts) (cs : List Change) → IsProp (AllStand p cs)
AllStand-prop p [] = Unit-prop
AllStand-prop p (c ∷ cs) = ×_prop (ChangeStands-prop p c) (AllStand-prop p cs)

pub AreApart-prop : (p : Parts) (cs : List Change) → IsProp (AreApart p cs)
AreApart-prop p cs = hlevel (Stand-prop, AllStand-prop, IsFrameless-prop, props)

pub AreWhole-prop : (p : Parts) (cs : List Change) → IsProp (AreWhole p cs)
AreWhole-prop p cs = hlevel (AreApart-prop, props)

pub CanSwap-prop : (p : Parts) (c : Change) → IsProp (CanSwap p c)
CanSwap-prop p c = hlevel (Ready-prop, Fit-prop, props)
