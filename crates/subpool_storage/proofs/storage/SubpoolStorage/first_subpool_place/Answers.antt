use Rattle.std.proofs.Common.{map, ap, ◌∙◌}
use Rattle.subpool_storage.specs.SubpoolStorage.{named, subpools_left, Stands}
use Rattle.subpool_storage.proofs.OrderLemmas.{all_named}
use Rattle.subpool_storage.proofs.storage.SubpoolStorage.first_subpool_place.Goals as goal

pub returns-clause-all : goal.returns-clause-all
unfolding subpools_left Stands
returns-clause-all c s q h = ap (map (named s)) (c.first_place.ensures.all s q.set h.set) ∙ all_named s q h
