use Rattle.free_queue.specs.FreeQueue.{is_free}
use Rattle.storage_swap.specs.Storage.{state_of}
use Rattle.cell_plans.proofs.FreeEnds.{up_to_end}
use Rattle.cell_plans.proofs.emptied.free_end.Goals as goal

pub returns : goal.returns
returns c =
    let s = c.args.storage.now in
    up_to_end (λ d. is_free s.elements c.free_areas-queue.result d) ((state_of s).subpools.free c.args.subpool) c.args.doubleword c.end_from.result c.free_areas-queue.ensures.free c.end_from.ensures
