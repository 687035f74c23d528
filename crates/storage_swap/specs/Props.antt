-- That a storage is well formed, and that a change next to it is ready, has one proof at most.
use Rattle.std.specs.Prelude.{List}
use Rattle.std.proofs.Props.{props}
use Rattle.raw_region.specs.Frames.{PageFrame}
use Rattle.descriptor_queue.specs.Props.{IsPages-prop}
use Rattle.task_tree.specs.Props.{IsTaskTree-prop}
use Rattle.subpool_storage.specs.declared.storage.SubpoolStorage.{SubpoolStorage}
use Rattle.subpool_storage.specs.Props.{Stands-prop}
use Rattle.storage_swap.specs.declared.storage.Parts.{Parts}
use Rattle.storage_swap.specs.Exchange.{HavePlaces}
use Rattle.storage_swap.specs.Storage.{Stand, IsFrameless, StandsWith}
use Rattle.vsm_elements.specs.Props.{IsChain-prop}
use Rattle.storage_swap.specs.declared.change.Change.{Change}
use Rattle.storage_swap.specs.Swap.{Ready}

pub Stand-prop : (p : Parts) → IsProp (Stand p)
Stand-prop p = hlevel (IsPages-prop, Stands-prop, IsTaskTree-prop, props)

pub StandsWith-prop : (p : Parts) (others : SubpoolStorage) → IsProp (StandsWith p others)
StandsWith-prop p others = hlevel (Stand-prop, Stands-prop, props)

pub IsFrameless-prop : (p : Parts) → IsProp (IsFrameless p)
IsFrameless-prop p = hlevel props

pub HavePlaces-prop : (p : Parts) (frames : List PageFrame) → IsProp (HavePlaces p frames)
HavePlaces-prop p frames = hlevel props

pub Ready-prop : (p : Parts) (c : Change) → IsProp (Ready p c)
Ready-prop p c = hlevel (StandsWith-prop, IsChain-prop, IsFrameless-prop, HavePlaces-prop, props)
