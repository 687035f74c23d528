use Rattle.std.proofs.Common.{◌≡◌, ℕ, Bool, subst}
use Rattle.std.specs.Prelude.{◌↔◌, IsTrue}
use Rattle.run_set.specs.Runs.{AllIn}
use Rattle.descriptor_queue.specs.Extents.{has_page}
use Rattle.subpool_storage.specs.SubpoolStorage.{subpools_of}
use Rattle.subpool_storage.proofs.storage.SubpoolStorage.has_pages.Goals as goal

pub returns : goal.returns
returns c =
    let P : (ℕ → Bool) → Type 0 = λ f. IsTrue c.covers.result ↔ AllIn f c.args.run in
    let same : (λ p. has_page c.args.elements.now c.queues-queues.result.extents p) ≡ (subpools_of c.args.elements.now c.args.self.now).pages c.args.subpool = λ i p. c.queues-queues.ensures.pages p i in
    subst P same c.covers.ensures
