use Rattle.storage_plans.proofs.BlockBytes.{PutBefore}
use Rattle.storage_plans.proofs.blocks.put_over.Given as goal

abbrev pub invariant-loop-k : goal.invariant-loop-k
invariant-loop-k l = PutBefore l.fn.held l.held l.first l.address l.bytes l.k
