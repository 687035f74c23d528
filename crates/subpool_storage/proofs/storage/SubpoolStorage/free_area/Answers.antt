use Rattle.descriptor_queue.specs.Extents.{has_page}
use Rattle.std.proofs.Common.{◌≡◌, ℕ, ◌+◌, Bool, true, Some, ◌∙◌, refl, sym, ap}
use Rattle.std.specs.Prelude.{if◌then◌else◌}
use Rattle.run_set.specs.Runs.{inside}
use Rattle.run_set.specs.Counts.{joins}
use Rattle.free_queue.specs.FreeQueue.{is_free}
use Rattle.subpool_set.specs.SubpoolSet.{pool}
use Rattle.subpool_storage.specs.Subpools.{with_free}
use Rattle.subpool_storage.specs.SubpoolStorage.{subpools_of}
use Rattle.subpool_storage.proofs.SubpoolLemmas.{as_free}
use Rattle.subpool_storage.proofs.QueueLemmas.{Turned, joined_if, free_turned}
use Rattle.subpool_storage.proofs.PutLemmas.{both_stand, free_there, free_call, turned_set, turned_pool, becomes}
use Rattle.subpool_storage.proofs.storage.SubpoolStorage.free_area.Goals as goal

pub free-requires-clause-queue : goal.free-requires-clause-queue
free-requires-clause-queue c =
    let there : pool c.args.elements.now c.args.self.now.set c.args.subpool.number c.args.subpool.owner ≡ Some (record { id = c.own-id.result.0; queues = c.own-id.result.1 }) = c.own-id.ensures in
    (both_stand c.args.elements.now c.args.elements.now c.args.self.now c.args.subpool c.own-id.result.0 c.own-id.result.1 c.requires.stands there).free

pub set_queues-requires-clause-set : goal.set_queues-requires-clause-set
set_queues-requires-clause-set c =
    let there : pool c.args.elements.now c.args.self.now.set c.args.subpool.number c.args.subpool.owner ≡ Some (record { id = c.own-id.result.0; queues = c.own-id.result.1 }) = c.own-id.ensures in
    let call : Turned c.args.elements.now c.free.new.elements c.own-id.result.1 (record { extents = c.own-id.result.1.extents; free = c.free.new.self }) (has_page c.args.elements.now c.own-id.result.1.extents) (is_free c.free.new.elements c.free.new.self) = free_turned c.args.elements.now c.free.new.elements c.own-id.result.1 c.free.new.self (both_stand c.args.elements.now c.args.elements.now c.args.self.now c.args.subpool c.own-id.result.0 c.own-id.result.1 c.requires.stands there) c.free.ensures.owned c.free.ensures.queue (is_free c.free.new.elements c.free.new.self) (λ d. refl) in
    turned_set c.args.elements.now c.free.new.elements c.args.self.now c.args.subpool c.own-id.result.0 c.own-id.result.1 (record { extents = c.own-id.result.1.extents; free = c.free.new.self }) (has_page c.args.elements.now c.own-id.result.1.extents) (is_free c.free.new.elements c.free.new.self) c.requires.stands there call

pub set_queues-requires-clause-pool : goal.set_queues-requires-clause-pool
set_queues-requires-clause-pool c =
    let there : pool c.args.elements.now c.args.self.now.set c.args.subpool.number c.args.subpool.owner ≡ Some (record { id = c.own-id.result.0; queues = c.own-id.result.1 }) = c.own-id.ensures in
    let call : Turned c.args.elements.now c.free.new.elements c.own-id.result.1 (record { extents = c.own-id.result.1.extents; free = c.free.new.self }) (has_page c.args.elements.now c.own-id.result.1.extents) (is_free c.free.new.elements c.free.new.self) = free_turned c.args.elements.now c.free.new.elements c.own-id.result.1 c.free.new.self (both_stand c.args.elements.now c.args.elements.now c.args.self.now c.args.subpool c.own-id.result.0 c.own-id.result.1 c.requires.stands there) c.free.ensures.owned c.free.ensures.queue (is_free c.free.new.elements c.free.new.self) (λ d. refl) in
    turned_pool c.args.elements.now c.free.new.elements c.args.self.now c.args.subpool c.own-id.result.0 c.own-id.result.1 (record { extents = c.own-id.result.1.extents; free = c.free.new.self }) (has_page c.args.elements.now c.own-id.result.1.extents) (is_free c.free.new.elements c.free.new.self) c.requires.stands there call

pub returns-clause-becomes : goal.returns-clause-becomes
returns-clause-becomes c =
    let there : pool c.args.elements.now c.args.self.now.set c.args.subpool.number c.args.subpool.owner ≡ Some (record { id = c.own-id.result.0; queues = c.own-id.result.1 }) = c.own-id.ensures in
    let call : Turned c.args.elements.now c.free.new.elements c.own-id.result.1 (record { extents = c.own-id.result.1.extents; free = c.free.new.self }) ((subpools_of c.args.elements.now c.args.self.now).pages c.args.subpool) (λ d. if inside d c.args.area then true else (subpools_of c.args.elements.now c.args.self.now).free c.args.subpool d) = free_call c.args.elements.now c.free.new.elements c.args.self.now c.args.subpool c.own-id.result.0 c.own-id.result.1 c.requires.stands there c.free.new.self c.args.area true c.free.ensures.owned c.free.ensures.queue (λ d. c.free.ensures.set d ∙ joined_if (inside d c.args.area) (is_free c.args.elements.now c.own-id.result.1.free d)) in
    becomes c.args.elements.now c.free.new.elements c.args.self.now c.args.subpool c.own-id.result.0 c.own-id.result.1 (record { extents = c.own-id.result.1.extents; free = c.free.new.self }) ((subpools_of c.args.elements.now c.args.self.now).pages c.args.subpool) (λ d. if inside d c.args.area then true else (subpools_of c.args.elements.now c.args.self.now).free c.args.subpool d) c.requires.stands there call c.set_queues.new.elements c.set_queues.ensures.set c.set_queues.ensures.sight c.set_queues.ensures.pools c.set_queues.ensures.owned c.set_queues.ensures.queues (with_free (subpools_of c.args.elements.now c.args.self.now) c.args.subpool c.args.area true) (as_free (subpools_of c.args.elements.now c.args.self.now) c.args.subpool c.args.area true)

pub free-requires-clause-taken : goal.free-requires-clause-taken
free-requires-clause-taken c = λ n within.
    let there : pool c.args.elements.now c.args.self.now.set c.args.subpool.number c.args.subpool.owner ≡ Some (record { id = c.own-id.result.0; queues = c.own-id.result.1 }) = c.own-id.ensures in
    sym (free_there c.args.elements.now c.args.elements.now c.args.self.now c.args.subpool c.own-id.result.0 c.own-id.result.1 c.requires.stands there n) ∙ c.requires.taken n within

pub returns-clause-spares : goal.returns-clause-spares
returns-clause-spares c =
    let there : pool c.args.elements.now c.args.self.now.set c.args.subpool.number c.args.subpool.owner ≡ Some (record { id = c.own-id.result.0; queues = c.own-id.result.1 }) = c.own-id.ensures in
    let free : (λ x. is_free c.args.elements.now c.own-id.result.1.free x) ≡ (subpools_of c.args.elements.now c.args.self.now).free c.args.subpool = λ i x. sym (free_there c.args.elements.now c.args.elements.now c.args.self.now c.args.subpool c.own-id.result.0 c.own-id.result.1 c.requires.stands there x) i in
    ap (λ (n : ℕ). n + 1) c.set_queues.ensures.spares ∙ c.free.ensures.exact ∙ ap (λ (set : ℕ → Bool). c.args.elements.now.spare + joins set c.args.area) free
