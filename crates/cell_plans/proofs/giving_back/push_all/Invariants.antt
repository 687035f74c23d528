use Rattle.std.proofs.Common.{drop}
use Rattle.storage_swap.proofs.BuilderLemmas.{Leads}
use Rattle.cell_plans.proofs.giving_back.push_all.Given as goal

abbrev pub invariant-loop-k : goal.invariant-loop-k
invariant-loop-k l = Leads l.fn.storage l.fn.builder l.records l.storage l.builder (drop l.k l.records)
