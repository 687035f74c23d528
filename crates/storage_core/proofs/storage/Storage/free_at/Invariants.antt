use Rattle.storage_core.specs.Walks.{IsFreeAreaPlace}
use Rattle.storage_core.proofs.storage.Storage.free_at.Given as goal

abbrev pub invariant-loop : goal.invariant-loop
invariant-loop l = IsFreeAreaPlace l.self l.fn.subpool l.place l.counter
