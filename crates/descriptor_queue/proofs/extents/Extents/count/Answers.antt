use Rattle.descriptor_queue.proofs.extents.Extents.count.Goals as goal

pub returns : goal.returns
returns c = c.count.ensures
