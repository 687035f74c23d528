use Rattle.storage_core.proofs.storage.Storage.first_sharer_place.Goals as goal

pub returns : goal.returns
returns c s p = c.first_sharer_place.ensures s.parts.elements s.parts.subpools p
