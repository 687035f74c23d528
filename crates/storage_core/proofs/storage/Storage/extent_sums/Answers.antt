use Rattle.std.proofs.Common.{List, subst}
use Rattle.run_set.specs.Runs.{Run}
use Rattle.run_set.specs.Sums.{IsSidesOf}
use Rattle.storage_core.proofs.storage.Storage.extent_sums.Goals as goal

pub returns : goal.returns
returns c p i place = subst (λ (rs : List Run). IsSidesOf 4096 rs c.sums.result) place.extents c.sums.ensures
