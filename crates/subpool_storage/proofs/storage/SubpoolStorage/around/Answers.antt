use Rattle.std.proofs.Common.{◌≡◌, ℕ, Bool, subst}
use Rattle.run_set.specs.Runs.{IsAround}
use Rattle.free_queue.specs.FreeQueue.{is_free}
use Rattle.subpool_storage.specs.SubpoolStorage.{subpools_of}
use Rattle.subpool_storage.proofs.storage.SubpoolStorage.around.Goals as goal

pub returns : goal.returns
returns c =
    let P : (ℕ → Bool) → Type 0 = λ f. IsAround f c.args.doubleword c.around.result in
    let same : (λ d. is_free c.args.elements.now c.queues.result.free d) ≡ (subpools_of c.args.elements.now c.args.self.now).free c.args.subpool = λ i d. c.queues.ensures.areas d i in
    subst P same c.around.ensures
