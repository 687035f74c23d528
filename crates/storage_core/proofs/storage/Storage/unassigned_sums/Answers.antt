use Rattle.std.proofs.Common.{List, subst}
use Rattle.run_set.specs.Runs.{Run}
use Rattle.run_set.specs.Sums.{IsSidesOf}
use Rattle.storage_core.proofs.Walking.{unassigned_are}
use Rattle.storage_core.proofs.storage.Storage.unassigned_sums.Goals as goal

pub returns : goal.returns
returns c = subst (λ (rs : List Run). IsSidesOf 4096 rs c.sums.result) (unassigned_are c.unassigned_are_shown.ensures.one c.pages_stand.ensures c.args.self.now) c.sums.ensures
