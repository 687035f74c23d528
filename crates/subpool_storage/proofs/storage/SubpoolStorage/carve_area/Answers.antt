use Rattle.descriptor_queue.specs.Extents.{has_page}
use Rattle.std.proofs.Common.{◌≡◌, ◌+◌, false, Some, ◌∙◌, refl, sym}
use Rattle.std.specs.Prelude.{if◌then◌else◌}
use Rattle.run_set.specs.Runs.{inside}
use Rattle.run_set.specs.Counts.{joins}
use Rattle.free_queue.specs.FreeQueue.{is_free}
use Rattle.subpool_set.specs.SubpoolSet.{pool}
use Rattle.subpool_storage.specs.Subpools.{with_free}
use Rattle.subpool_storage.specs.SubpoolStorage.{subpools_of}
use Rattle.subpool_storage.proofs.SubpoolLemmas.{as_free}
use Rattle.subpool_storage.proofs.QueueLemmas.{Turned, left_if, free_turned}
use Rattle.subpool_storage.proofs.PutLemmas.{both_stand, free_there, free_call, turned_set, turned_pool, becomes}
use Rattle.subpool_storage.proofs.storage.SubpoolStorage.carve_area.Goals as goal

pub carve-requires-clause-queue : goal.carve-requires-clause-queue
carve-requires-clause-queue c =
    let there : pool c.args.elements.now c.args.self.now.set c.args.subpool.number c.args.subpool.owner ≡ Some (record { id = c.own-id.result.0; queues = c.own-id.result.1 }) = c.own-id.ensures in
    (both_stand c.args.elements.now c.args.elements.now c.args.self.now c.args.subpool c.own-id.result.0 c.own-id.result.1 c.requires.stands there).free

pub set_queues-requires-clause-set : goal.set_queues-requires-clause-set
set_queues-requires-clause-set c =
    let there : pool c.args.elements.now c.args.self.now.set c.args.subpool.number c.args.subpool.owner ≡ Some (record { id = c.own-id.result.0; queues = c.own-id.result.1 }) = c.own-id.ensures in
    let call : Turned c.args.elements.now c.carve.new.elements c.own-id.result.1 (record { extents = c.own-id.result.1.extents; free = c.carve.new.self }) (has_page c.args.elements.now c.own-id.result.1.extents) (is_free c.carve.new.elements c.carve.new.self) = free_turned c.args.elements.now c.carve.new.elements c.own-id.result.1 c.carve.new.self (both_stand c.args.elements.now c.args.elements.now c.args.self.now c.args.subpool c.own-id.result.0 c.own-id.result.1 c.requires.stands there) c.carve.ensures.owned c.carve.ensures.queue (is_free c.carve.new.elements c.carve.new.self) (λ d. refl) in
    turned_set c.args.elements.now c.carve.new.elements c.args.self.now c.args.subpool c.own-id.result.0 c.own-id.result.1 (record { extents = c.own-id.result.1.extents; free = c.carve.new.self }) (has_page c.args.elements.now c.own-id.result.1.extents) (is_free c.carve.new.elements c.carve.new.self) c.requires.stands there call

pub set_queues-requires-clause-pool : goal.set_queues-requires-clause-pool
set_queues-requires-clause-pool c =
    let there : pool c.args.elements.now c.args.self.now.set c.args.subpool.number c.args.subpool.owner ≡ Some (record { id = c.own-id.result.0; queues = c.own-id.result.1 }) = c.own-id.ensures in
    let call : Turned c.args.elements.now c.carve.new.elements c.own-id.result.1 (record { extents = c.own-id.result.1.extents; free = c.carve.new.self }) (has_page c.args.elements.now c.own-id.result.1.extents) (is_free c.carve.new.elements c.carve.new.self) = free_turned c.args.elements.now c.carve.new.elements c.own-id.result.1 c.carve.new.self (both_stand c.args.elements.now c.args.elements.now c.args.self.now c.args.subpool c.own-id.result.0 c.own-id.result.1 c.requires.stands there) c.carve.ensures.owned c.carve.ensures.queue (is_free c.carve.new.elements c.carve.new.self) (λ d. refl) in
    turned_pool c.args.elements.now c.carve.new.elements c.args.self.now c.args.subpool c.own-id.result.0 c.own-id.result.1 (record { extents = c.own-id.result.1.extents; free = c.carve.new.self }) (has_page c.args.elements.now c.own-id.result.1.extents) (is_free c.carve.new.elements c.carve.new.self) c.requires.stands there call

pub returns-clause-becomes : goal.returns-clause-becomes
returns-clause-becomes c =
    let there : pool c.args.elements.now c.args.self.now.set c.args.subpool.number c.args.subpool.owner ≡ Some (record { id = c.own-id.result.0; queues = c.own-id.result.1 }) = c.own-id.ensures in
    let call : Turned c.args.elements.now c.carve.new.elements c.own-id.result.1 (record { extents = c.own-id.result.1.extents; free = c.carve.new.self }) ((subpools_of c.args.elements.now c.args.self.now).pages c.args.subpool) (λ d. if inside d c.args.area then false else (subpools_of c.args.elements.now c.args.self.now).free c.args.subpool d) = free_call c.args.elements.now c.carve.new.elements c.args.self.now c.args.subpool c.own-id.result.0 c.own-id.result.1 c.requires.stands there c.carve.new.self c.args.area false c.carve.ensures.owned c.carve.ensures.queue (λ d. c.carve.ensures.set d ∙ left_if (inside d c.args.area) (is_free c.args.elements.now c.own-id.result.1.free d)) in
    becomes c.args.elements.now c.carve.new.elements c.args.self.now c.args.subpool c.own-id.result.0 c.own-id.result.1 (record { extents = c.own-id.result.1.extents; free = c.carve.new.self }) ((subpools_of c.args.elements.now c.args.self.now).pages c.args.subpool) (λ d. if inside d c.args.area then false else (subpools_of c.args.elements.now c.args.self.now).free c.args.subpool d) c.requires.stands there call c.set_queues.new.elements c.set_queues.ensures.set c.set_queues.ensures.sight c.set_queues.ensures.pools c.set_queues.ensures.owned c.set_queues.ensures.queues (with_free (subpools_of c.args.elements.now c.args.self.now) c.args.subpool c.args.area false) (as_free (subpools_of c.args.elements.now c.args.self.now) c.args.subpool c.args.area false)

pub carve-requires-clause-free : goal.carve-requires-clause-free
carve-requires-clause-free c = λ n within.
    let there : pool c.args.elements.now c.args.self.now.set c.args.subpool.number c.args.subpool.owner ≡ Some (record { id = c.own-id.result.0; queues = c.own-id.result.1 }) = c.own-id.ensures in
    sym (free_there c.args.elements.now c.args.elements.now c.args.self.now c.args.subpool c.own-id.result.0 c.own-id.result.1 c.requires.stands there n) ∙ c.requires.free n within

pub returns-clause-spares : goal.returns-clause-spares
returns-clause-spares c =
    let there : pool c.args.elements.now c.args.self.now.set c.args.subpool.number c.args.subpool.owner ≡ Some (record { id = c.own-id.result.0; queues = c.own-id.result.1 }) = c.own-id.ensures in
    let free : (λ x. is_free c.args.elements.now c.own-id.result.1.free x) ≡ (subpools_of c.args.elements.now c.args.self.now).free c.args.subpool = λ i x. sym (free_there c.args.elements.now c.args.elements.now c.args.self.now c.args.subpool c.own-id.result.0 c.own-id.result.1 c.requires.stands there x) i in
    (λ i. c.set_queues.ensures.spares i + joins (sym free i) c.args.area) ∙ c.carve.ensures.exact
