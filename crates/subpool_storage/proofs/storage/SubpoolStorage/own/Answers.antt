use Rattle.subpool_set.proofs.LawLemmas.{own_is_there}
use Rattle.subpool_storage.specs.SubpoolStorage.{subpools_of}
use Rattle.subpool_storage.proofs.OrderLemmas.{seen_by}
use Rattle.subpool_storage.proofs.storage.SubpoolStorage.own.Goals as goal

pub returns-in-None : goal.returns-in-None
unfolding subpools_of
returns-in-None c = absurd (own_is_there c.args.elements.now c.args.self.now.set c.args.subpool.number c.args.subpool.owner c.in-None.ensures.none (seen_by c.args.subpool.owner _ c.requires.there))
