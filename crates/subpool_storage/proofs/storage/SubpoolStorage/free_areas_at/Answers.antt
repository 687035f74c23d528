use Rattle.free_queue.specs.FreeQueue.{areas, is_free}
use Rattle.free_queue.proofs.QueueLemmas.{queues_stand}
use Rattle.subpool_storage.specs.SubpoolStorage.{subpools_of, subpool_before}
use Rattle.subpool_storage.proofs.ExtentLemmas.{runs_are_free_areas}
use Rattle.subpool_storage.proofs.storage.SubpoolStorage.free_areas_at.Goals as goal

pub returns-clause-runs : goal.returns-clause-runs
returns-clause-runs c =
    runs_are_free_areas (subpools_of c.args.elements.now c.args.self.now) (subpool_before c.args.elements.now c.args.place) (areas c.args.elements.now c.queues_at.result.free) (is_free c.args.elements.now c.queues_at.result.free)
    (queues_stand c.args.elements.now c.queues_at.result.free c.queues_at.ensures.free).0 c.queues_at.ensures.areas
