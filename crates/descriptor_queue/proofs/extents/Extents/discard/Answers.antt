use Rattle.descriptor_queue.proofs.extents.Extents.discard.Goals as goal

pub returns-clause-owned : goal.returns-clause-owned
returns-clause-owned c = c.discard.ensures.owned
