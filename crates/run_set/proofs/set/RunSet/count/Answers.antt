use Rattle.std.proofs.Common.{sym}
use Rattle.run_set.specs.RunSet.{runs}
use Rattle.run_set.proofs.CoverLemmas.{counted-runs}
use Rattle.run_set.proofs.set.RunSet.count.Goals as goal

pub returns : goal.returns
unfolding runs
returns c s = sym (counted-runs s c.args.self.now.tree)
