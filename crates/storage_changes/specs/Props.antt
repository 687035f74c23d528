-- That a change fits has one proof at most, and so has an equation of states, of changes or of outcomes.
use Rattle.std.specs.Prelude.{List, [], ◌∷◌}
use Rattle.std.proofs.Props.{props}
use mathlib.Core.HLevel.{Unit-prop, ×_prop}
use Rattle.cell_pool.specs.Props.{Pool-set}
use Rattle.subpool_storage.specs.Props.{Subpools-set}
use Rattle.vsm_model.specs.declared.causes.Cause.{Cause}
use Rattle.vsm_model.specs.declared.replies.Reply.{Reply}
use Rattle.vsm_model.specs.Names.{NamedState}
use Rattle.vsm_model.specs.Standing.{Outcome}
use Rattle.vsm_model.specs.State.{State}
use Rattle.storage_changes.specs.declared.record.Record.{Record}
use Rattle.storage_changes.specs.declared.record.Record.TheVariants.{Area, Extent, Pages, Own, Queues, Register, Bytes}
use Rattle.storage_changes.specs.declared.record.Record.TheVariants.{Registers, Task, Turn, Sharer, Pass}
use Rattle.storage_changes.specs.declared.record.Record.TheVariants.{CellPool, CellExtent, Cell, Obtain}
use Rattle.storage_changes.specs.State.{StorageState}
use Rattle.storage_changes.specs.Walk.{Walk}
use Rattle.storage_changes.specs.Steps.{step}
use Rattle.storage_changes.specs.Fits.{Fits, FitInTurn}
use Rattle.storage_changes.specs.Changes.{Change, Fit, outset}

-- facts of records and changes

pub Fits-prop : (w : Walk) (r : Record) → IsProp (Fits w r)
Fits-prop w (Area r) = hlevel props
Fits-prop w (Extent r) = hlevel props
Fits-prop w (Pages r) = hlevel props
Fits-prop w (Own r) = hlevel props
Fits-prop w (Queues r) = hlevel props
Fits-prop w (Register r) = hlevel props
Fits-prop w (Registers r) = hlevel props
Fits-prop w (Task r) = hlevel props
Fits-prop w (Turn r) = hlevel props
Fits-prop w (Sharer r) = hlevel props
Fits-prop w (Pass r) = hlevel props
Fits-prop w (CellPool r) = hlevel props
Fits-prop w (CellExtent r) = hlevel (Pool-set, props)
Fits-prop w (Cell r) = hlevel (Pool-set, props)
Fits-prop w (Bytes r) = hlevel props
Fits-prop w (Obtain r) = hlevel props

pub FitInTurn-prop : (w : Walk) (rs : List Record) → IsProp (FitInTurn w rs)
FitInTurn-prop w [] = Unit-prop
FitInTurn-prop w (r ∷ rs) = ×_prop (Fits-prop w r) (FitInTurn-prop (step w r) rs)

pub Fit-prop : (m : StorageState) (d : Change) → IsProp (Fit m d)
Fit-prop m d = hlevel (FitInTurn-prop (outset m d) d.records, props)

-- states and changes

pub StorageState-set : IsSet StorageState
StorageState-set = hlevel (Subpools-set, props)

pub Record-set : IsSet Record
Record-set = hlevel props

pub Change-set : IsSet Change
Change-set = hlevel (Record-set, Subpools-set, props)

-- the plain machine's states, replies and causes, and the outcomes of its steps

pub State-set : IsSet State
State-set = hlevel props

pub NamedState-set : IsSet NamedState
NamedState-set = hlevel (State-set, props)

pub Reply-set : IsSet Reply
Reply-set = hlevel props

pub Cause-set : IsSet Cause
Cause-set = hlevel props

pub Outcome-set : {M R C : Type 0} → IsSet M → IsSet R → IsSet C → IsSet (Outcome M R C)
Outcome-set states replies causes = hlevel (states, replies, causes, props)
