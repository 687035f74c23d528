use Rattle.std.proofs.Common.{[], ap}
use Rattle.step_history.specs.Log.{log}
use Rattle.step_history.proofs.history.History.new.Goals as goal

pub returns : goal.returns
returns g c = ap (λ b. log [] b.items c.args.limit) c.in_ok-changes.ensures
