use Rattle.storage_swap.proofs.LoopLemmas.{Going}
use Rattle.storage_swap.proofs.records.swap_records.Given as goal

abbrev pub invariant-loop-records : goal.invariant-loop-records
invariant-loop-records l = Going l.initial.storage l.initial.given l.initial.parked l.initial.records l.storage l.given l.parked l.records l.done

abbrev pub decreases-loop-records : goal.decreases-loop-records
decreases-loop-records l = l.records.count
