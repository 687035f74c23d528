use Rattle.descriptor_queue.proofs.extents.Extents.contains.Goals as goal

pub returns : goal.returns
returns c = c.contains.ensures
