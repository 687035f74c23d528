use Rattle.free_queue.specs.FreeQueue.{is_free}
use Rattle.std.proofs.Common.{◌≡◌, ℕ, ◌+◌, Bool, true, Some, ◌∙◌, refl, sym, ap}
use Rattle.std.specs.Prelude.{if◌then◌else◌}
use Rattle.run_set.specs.Runs.{inside}
use Rattle.run_set.specs.Counts.{joins}
use Rattle.descriptor_queue.specs.Extents.{has_page}
use Rattle.subpool_set.specs.SubpoolSet.{pool}
use Rattle.subpool_storage.specs.Subpools.{with_pages}
use Rattle.subpool_storage.specs.SubpoolStorage.{subpools_of}
use Rattle.subpool_storage.proofs.SubpoolLemmas.{as_pages}
use Rattle.subpool_storage.proofs.QueueLemmas.{Turned, joined_if, extents_turned}
use Rattle.subpool_storage.proofs.PutLemmas.{both_stand, pages_there, pages_call, turned_set, turned_pool, becomes}
use Rattle.subpool_storage.proofs.storage.SubpoolStorage.insert_run.Goals as goal

pub insert_run-requires-clause-queue : goal.insert_run-requires-clause-queue
insert_run-requires-clause-queue c =
    let there : pool c.args.elements.now c.args.self.now.set c.args.subpool.number c.args.subpool.owner ≡ Some (record { id = c.own-id.result.0; queues = c.own-id.result.1 }) = c.own-id.ensures in
    (both_stand c.args.elements.now c.args.elements.now c.args.self.now c.args.subpool c.own-id.result.0 c.own-id.result.1 c.requires.stands there).extents

pub set_queues-requires-clause-set : goal.set_queues-requires-clause-set
set_queues-requires-clause-set c =
    let there : pool c.args.elements.now c.args.self.now.set c.args.subpool.number c.args.subpool.owner ≡ Some (record { id = c.own-id.result.0; queues = c.own-id.result.1 }) = c.own-id.ensures in
    let call : Turned c.args.elements.now c.insert_run.new.elements c.own-id.result.1 (record { extents = c.insert_run.new.self; free = c.own-id.result.1.free }) (has_page c.insert_run.new.elements c.insert_run.new.self) (is_free c.args.elements.now c.own-id.result.1.free) = extents_turned c.args.elements.now c.insert_run.new.elements c.own-id.result.1 c.insert_run.new.self (both_stand c.args.elements.now c.args.elements.now c.args.self.now c.args.subpool c.own-id.result.0 c.own-id.result.1 c.requires.stands there) c.insert_run.ensures.owned c.insert_run.ensures.queue (has_page c.insert_run.new.elements c.insert_run.new.self) (λ d. refl) in
    turned_set c.args.elements.now c.insert_run.new.elements c.args.self.now c.args.subpool c.own-id.result.0 c.own-id.result.1 (record { extents = c.insert_run.new.self; free = c.own-id.result.1.free }) (has_page c.insert_run.new.elements c.insert_run.new.self) (is_free c.args.elements.now c.own-id.result.1.free) c.requires.stands there call

pub set_queues-requires-clause-pool : goal.set_queues-requires-clause-pool
set_queues-requires-clause-pool c =
    let there : pool c.args.elements.now c.args.self.now.set c.args.subpool.number c.args.subpool.owner ≡ Some (record { id = c.own-id.result.0; queues = c.own-id.result.1 }) = c.own-id.ensures in
    let call : Turned c.args.elements.now c.insert_run.new.elements c.own-id.result.1 (record { extents = c.insert_run.new.self; free = c.own-id.result.1.free }) (has_page c.insert_run.new.elements c.insert_run.new.self) (is_free c.args.elements.now c.own-id.result.1.free) = extents_turned c.args.elements.now c.insert_run.new.elements c.own-id.result.1 c.insert_run.new.self (both_stand c.args.elements.now c.args.elements.now c.args.self.now c.args.subpool c.own-id.result.0 c.own-id.result.1 c.requires.stands there) c.insert_run.ensures.owned c.insert_run.ensures.queue (has_page c.insert_run.new.elements c.insert_run.new.self) (λ d. refl) in
    turned_pool c.args.elements.now c.insert_run.new.elements c.args.self.now c.args.subpool c.own-id.result.0 c.own-id.result.1 (record { extents = c.insert_run.new.self; free = c.own-id.result.1.free }) (has_page c.insert_run.new.elements c.insert_run.new.self) (is_free c.args.elements.now c.own-id.result.1.free) c.requires.stands there call

pub returns-clause-becomes : goal.returns-clause-becomes
returns-clause-becomes c =
    let there : pool c.args.elements.now c.args.self.now.set c.args.subpool.number c.args.subpool.owner ≡ Some (record { id = c.own-id.result.0; queues = c.own-id.result.1 }) = c.own-id.ensures in
    let call : Turned c.args.elements.now c.insert_run.new.elements c.own-id.result.1 (record { extents = c.insert_run.new.self; free = c.own-id.result.1.free }) (λ x. if inside x c.args.run then true else (subpools_of c.args.elements.now c.args.self.now).pages c.args.subpool x) ((subpools_of c.args.elements.now c.args.self.now).free c.args.subpool) = pages_call c.args.elements.now c.insert_run.new.elements c.args.self.now c.args.subpool c.own-id.result.0 c.own-id.result.1 c.requires.stands there c.insert_run.new.self c.args.run true c.insert_run.ensures.owned c.insert_run.ensures.queue (λ d. c.insert_run.ensures.set d ∙ joined_if (inside d c.args.run) (has_page c.args.elements.now c.own-id.result.1.extents d)) in
    becomes c.args.elements.now c.insert_run.new.elements c.args.self.now c.args.subpool c.own-id.result.0 c.own-id.result.1 (record { extents = c.insert_run.new.self; free = c.own-id.result.1.free }) (λ x. if inside x c.args.run then true else (subpools_of c.args.elements.now c.args.self.now).pages c.args.subpool x) ((subpools_of c.args.elements.now c.args.self.now).free c.args.subpool) c.requires.stands there call c.set_queues.new.elements c.set_queues.ensures.set c.set_queues.ensures.sight c.set_queues.ensures.pools c.set_queues.ensures.owned c.set_queues.ensures.queues (with_pages (subpools_of c.args.elements.now c.args.self.now) c.args.subpool c.args.run true) (as_pages (subpools_of c.args.elements.now c.args.self.now) c.args.subpool c.args.run true)

pub insert_run-requires-clause-absent : goal.insert_run-requires-clause-absent
insert_run-requires-clause-absent c = λ n within.
    let there : pool c.args.elements.now c.args.self.now.set c.args.subpool.number c.args.subpool.owner ≡ Some (record { id = c.own-id.result.0; queues = c.own-id.result.1 }) = c.own-id.ensures in
    sym (pages_there c.args.elements.now c.args.elements.now c.args.self.now c.args.subpool c.own-id.result.0 c.own-id.result.1 c.requires.stands there n) ∙ c.requires.absent n within

pub returns-clause-spares : goal.returns-clause-spares
returns-clause-spares c =
    let there : pool c.args.elements.now c.args.self.now.set c.args.subpool.number c.args.subpool.owner ≡ Some (record { id = c.own-id.result.0; queues = c.own-id.result.1 }) = c.own-id.ensures in
    let pages : (λ x. has_page c.args.elements.now c.own-id.result.1.extents x) ≡ (subpools_of c.args.elements.now c.args.self.now).pages c.args.subpool = λ i x. sym (pages_there c.args.elements.now c.args.elements.now c.args.self.now c.args.subpool c.own-id.result.0 c.own-id.result.1 c.requires.stands there x) i in
    ap (λ (n : ℕ). n + 1) c.set_queues.ensures.spares ∙ c.insert_run.ensures.exact ∙ ap (λ (set : ℕ → Bool). c.args.elements.now.spare + joins set c.args.run) pages
