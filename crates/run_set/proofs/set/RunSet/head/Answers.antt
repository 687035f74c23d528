use Rattle.std.proofs.Common.{refl}
use Rattle.run_set.specs.RunSet.{set_of}
use Rattle.run_set.proofs.set.RunSet.head.Goals as goal

pub returns : goal.returns
unfolding set_of
returns c = refl
