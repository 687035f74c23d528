use Rattle.descriptor_queue.proofs.PageLemmas.{extents_kept}
use Rattle.descriptor_queue.proofs.laws.extents_kept.Goals as goal

pub returns : goal.returns
returns c = extents_kept
