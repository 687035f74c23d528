use Rattle.descriptor_queue.proofs.PageLemmas.{pages_kept}
use Rattle.descriptor_queue.proofs.laws.pages_kept.Goals as goal

pub returns : goal.returns
returns c = pages_kept
