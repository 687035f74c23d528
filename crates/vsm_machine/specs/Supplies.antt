-- When there is already memory for a statement.
use Rattle.std.specs.Prelude.{◌≡◌, ℕ, ◌+◌, ◌*◌, ◌≤◌, ⊤, IfSome, IsSome, Result, Err, List}
use Rattle.vsm_model.specs.declared.replies.Reply.{Reply}
use Rattle.vsm_model.specs.Names.{NamedState, word_of}
use Rattle.vsm_model.specs.Standing.{Accepted}
use Rattle.macro_statements.specs.Requests.{Act}
use Rattle.vsm_machine.specs.NameTable.{GetsOnly, HasRoom}
use Rattle.storage_core.specs.Fresh.{HasFramesFor}
use Rattle.storage_core.specs.Memory.{Makes}
use Rattle.storage_core.specs.Planned.{fresh_pages, IsSpareFor}
use Rattle.vsm_machine.specs.declared.machine.Machine.{Machine}
use Rattle.vsm_machine.specs.declared.plans.Planned.{Planned}
use Rattle.vsm_machine.specs.declared.refusals.Refusal.{Refusal}
use Rattle.vsm_machine.specs.declared.refusals.Refusal.TheVariants.{NoMemory}
use Rattle.vsm_machine.specs.Changes.{plain_of, shown}
use Rattle.vsm_machine.specs.Machine.{statement_step}
use Rattle.vsm_machine.specs.Meaning.{settings_of}
use Rattle.vsm_machine.specs.Planned.{defined_by, step_planned, weight_asked}

-- There is room for the name that the plan defines, if it defines one, and each page that it assigns has a spare frame
-- and a table.
pub record NeedsNoMore (machine : Machine) (p : Planned) : Type 0 where
  pub named : IfSome (defined_by (step_planned p)) (HasRoom machine.names)
  pub pages : IsSpareFor machine.storage.parts 0 (fresh_pages p.plan)

-- Each page that is newly assigned in this next state has a spare frame and a table, and each name that is defined in
-- it is in the table, or another can be added.
pub record HasMemoryFor (machine : Machine) (n : NamedState) : Type 0 where
  pub pages : HasFramesFor machine.storage.parts (plain_of machine).storage n.storage
  pub names : (name : List ℕ) → IsSome (word_of n.names name) → HasRoom machine.names name

-- At least as many elements are spare as the statement's weight asks for, and there is memory for the state that the
-- plain machine reaches by it.
pub record IsSupplied (machine : Machine) (x : Act) : Type 0 where
  pub elements : 32 + 8 * weight_asked (shown machine) x ≤ machine.storage.parts.elements.spare
  pub next :
      (n : NamedState) (reply : Reply)
      → statement_step (settings_of machine.storage) (plain_of machine) x ≡ Accepted n reply
      → HasMemoryFor machine n

-- a statement isn't refused because memory runs out
abbrev pub FindsMemory : Result Reply Refusal → Type 0
FindsMemory (Err NoMemory) = ⊥
FindsMemory _ = ⊤

-- For a statement with this plan at most a block of elements was made beyond the live ones and those that its weight
-- asks for, no frame beyond those of the pages that become assigned and those that weren't spare, and a table only for
-- a segment of these pages. The table of names has no other new name than the one that it defines.
pub record MakesFor (m : Machine) (x : Act) (p : Planned) (n : Machine) : Type 0 where
  pub storage : Makes m.storage.parts n.storage.parts (32 + 8 * weight_asked (shown m) x) (fresh_pages p.plan)
  pub names : GetsOnly m.names n.names (defined_by (step_planned p))
