use Rattle.std.proofs.Common.{refl, ap, ◌∙◌}
use Rattle.subpool_storage.specs.SubpoolStorage.{subpools_of}
use Rattle.subpool_storage.specs.Subpools.{is_there}
use Rattle.subpool_storage.proofs.OrderLemmas.{named_there}
use Rattle.subpool_storage.proofs.storage.SubpoolStorage.next_subpool.Goals as goal

pub returns-clause-there : goal.returns-clause-there
returns-clause-there c = ap (is_there (subpools_of c.args.elements.now c.args.self.now)) c.subpool_of.ensures ∙ named_there c.args.elements.now c.args.self.now c.requires.stands c.in_ok-id.id _ _ c.in_ok-id.ensures.pool refl refl
