use Rattle.descriptor_queue.specs.Extents.{extents, has_page}
use Rattle.descriptor_queue.proofs.PageLemmas.{extents_stand}
use Rattle.subpool_storage.specs.SubpoolStorage.{subpools_of, subpool_before}
use Rattle.subpool_storage.proofs.ExtentLemmas.{runs_are_extents}
use Rattle.subpool_storage.proofs.storage.SubpoolStorage.extents_at.Goals as goal

pub returns-clause-runs : goal.returns-clause-runs
returns-clause-runs c =
    runs_are_extents (subpools_of c.args.elements.now c.args.self.now) (subpool_before c.args.elements.now c.args.place) (extents c.args.elements.now c.queues_at.result.extents) (has_page c.args.elements.now c.queues_at.result.extents)
    (extents_stand c.args.elements.now c.queues_at.result.extents c.queues_at.ensures.extents).0 c.queues_at.ensures.pages
