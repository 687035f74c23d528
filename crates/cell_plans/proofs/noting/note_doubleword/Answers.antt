use Rattle.std.proofs.Common.{arith}
use Rattle.free_queue.specs.FreeQueue.{is_free}
use Rattle.storage_changes.specs.StorageActions.{run_of}
use Rattle.cell_plans.proofs.NotingLemmas.{joins-before}
use Rattle.cell_plans.proofs.noting.note_doubleword.Goals as goal

pub returns-then-end-doubleword-clause-joined : goal.returns-then-end-doubleword-clause-joined
returns-then-end-doubleword-clause-joined c = λ before is held.
    let one = joins-before (λ d. is_free c.args.elements.now c.args.noted.now d) (run_of c.args.doubleword 1) before is held in
    omega (arith, one, c.free.ensures.exact)
