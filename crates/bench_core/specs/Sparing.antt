-- How much memory is made for a statement: none if it's refused for anything except lack of memory.
use Rattle.std.specs.Prelude.{◌≡◌, Ok}
use Rattle.macro_statements.specs.Requests.{Act}
use Rattle.vsm_machine.specs.declared.machine.Machine.{Machine}
use Rattle.vsm_machine.specs.declared.refusals.Refusal.{Refusal}
use Rattle.vsm_machine.specs.declared.refusals.Refusal.TheVariants.{Name, Abend, NoMemory}
use Rattle.vsm_machine.specs.declared.plans.Planned.{Planned}
use Rattle.vsm_machine.specs.Changes.{shown}
use Rattle.vsm_machine.specs.Planned.{IsPlanned}
use Rattle.vsm_machine.specs.Supplies.{MakesFor}

-- it has a plan, for which no more was made than this
abbrev pub MakesForStatement : Machine → Act → Machine → Type 0
MakesForStatement m x n = (p : Planned) × IsPlanned (shown m) x (Ok p) × MakesFor m x p n

-- A refused one leaves the machine with all its memory as it was; if memory ran out, no more was made than for an
-- accepted one.
abbrev pub Spares : Machine → Act → Machine → Refusal → Type 0
Spares m x n Name = n ≡ m
Spares m x n (Abend code) = n ≡ m
Spares m x n NoMemory = MakesForStatement m x n
