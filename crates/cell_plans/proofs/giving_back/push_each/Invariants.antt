use Rattle.std.proofs.Common.{◌-◌, length}
use Rattle.storage_swap.specs.Storage.{state_of}
use Rattle.cell_plans.specs.Areas.{areas_of}
use Rattle.cell_plans.proofs.AreaWalks.{AreasLead}
use Rattle.cell_plans.proofs.giving_back.push_each.Given as goal

abbrev pub invariant-loop-area : goal.invariant-loop-area
invariant-loop-area l = AreasLead l.subpool l.pool l.fn.storage l.fn.builder l.storage l.builder l.count l.areas

abbrev pub decreases-loop-area : goal.decreases-loop-area
decreases-loop-area l = length (areas_of ((state_of l.fn.storage).subpools.cells l.pool)) - l.count
