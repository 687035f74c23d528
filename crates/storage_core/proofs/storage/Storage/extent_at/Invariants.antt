use Rattle.storage_core.specs.Walks.{IsExtentPlace}
use Rattle.storage_core.proofs.storage.Storage.extent_at.Given as goal

abbrev pub invariant-loop : goal.invariant-loop
invariant-loop l = IsExtentPlace l.self l.fn.subpool l.place l.counter
