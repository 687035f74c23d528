use Rattle.std.proofs.Common.{List, subst}
use Rattle.run_set.specs.Runs.{Run}
use Rattle.run_set.specs.Sums.{IsSidesOf}
use Rattle.storage_core.proofs.storage.Storage.free_area_sums.Goals as goal

pub returns : goal.returns
returns c p i place = subst (λ (rs : List Run). IsSidesOf 2097152 rs c.sums.result) place.areas c.sums.ensures
