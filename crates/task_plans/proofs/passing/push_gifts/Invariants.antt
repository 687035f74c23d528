use Rattle.std.proofs.Common.{drop}
use Rattle.std.specs.List.{flat_map}
use Rattle.storage_swap.specs.Storage.{state_of}
use Rattle.storage_swap.proofs.BuilderLemmas.{Leads}
use Rattle.storage_changes.specs.Attaching.{gift_records}
use Rattle.task_plans.proofs.passing.push_gifts.Given as goal

abbrev pub invariant-loop-k : goal.invariant-loop-k
invariant-loop-k l =
    let each = gift_records (state_of l.fn.storage) l.task in
    Leads l.fn.storage l.fn.builder (flat_map each l.given.items) l.storage l.builder (flat_map each (drop l.k l.given.items))
