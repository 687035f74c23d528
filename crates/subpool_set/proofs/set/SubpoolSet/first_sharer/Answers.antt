use Rattle.std.proofs.Common.{refl}
use Rattle.subpool_set.specs.SubpoolSet.{sight, sharers_left}
use Rattle.subpool_set.proofs.ReaderLemmas.{all_left}
use Rattle.subpool_set.proofs.set.SubpoolSet.first_sharer.Goals as goal

pub returns : goal.returns
unfolding sharers_left
returns c s q number owner = all_left (sight s q) number owner 64 refl
