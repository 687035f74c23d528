use Rattle.std.proofs.Common.{arith}
use Rattle.subpool_storage.specs.SubpoolStorage.{subpools_of}
use Rattle.subpool_storage.specs.Subpools.{with_pool_of}
use Rattle.subpool_storage.proofs.CellLemmas.{cells_apart, name_is_free, single_back, cells_stand, cells_stand_too, cells_are, cells_are_too, cells_parted, cells_move}
use Rattle.subpool_storage.proofs.storage.SubpoolStorage.exchange_pool.Goals as goal

pub exchange_pool-requires-clause-apart : goal.exchange_pool-requires-clause-apart
exchange_pool-requires-clause-apart c = cells_apart c.args.elements.now c.args.self.now c.args.others.now c.requires.stands c.requires.others c.requires.apart

pub exchange_pool-requires-clause-names : goal.exchange_pool-requires-clause-names
exchange_pool-requires-clause-names c = name_is_free c.args.elements.now c.args.self.now c.args.others.now c.requires.stands c.requires.others c.requires.apart c.args.id c.requires.single

pub exchange_pool-requires-clause-names_back : goal.exchange_pool-requires-clause-names_back
exchange_pool-requires-clause-names_back c = name_is_free c.args.elements.now c.args.others.now c.args.self.now c.requires.others c.requires.stands (λ i. omega (arith, c.requires.apart i)) c.args.id (single_back (subpools_of c.args.elements.now c.args.self.now) (subpools_of c.args.elements.now c.args.others.now) c.args.id c.requires.single)

pub returns-clause-stands : goal.returns-clause-stands
returns-clause-stands c = cells_stand c.args.elements.now c.args.self.now c.args.others.now c.requires.stands c.requires.others c.requires.apart c.exchange_pool.new.elements c.exchange_pool.new.self c.exchange_pool.new.others c.exchange_pool.ensures.pools c.exchange_pool.ensures.others c.exchange_pool.ensures.apart c.exchange_pool.ensures.owned

pub returns-clause-others : goal.returns-clause-others
returns-clause-others c = cells_stand_too c.args.elements.now c.args.self.now c.args.others.now c.requires.stands c.requires.others c.requires.apart c.exchange_pool.new.elements c.exchange_pool.new.self c.exchange_pool.new.others c.exchange_pool.ensures.pools c.exchange_pool.ensures.others c.exchange_pool.ensures.apart c.exchange_pool.ensures.owned

pub returns-clause-subpools : goal.returns-clause-subpools
unfolding subpools_of
returns-clause-subpools c = cells_are c.args.elements.now c.args.self.now c.args.others.now c.requires.stands c.requires.others c.requires.apart c.exchange_pool.new.elements c.exchange_pool.new.self c.exchange_pool.new.others c.exchange_pool.ensures.pools c.exchange_pool.ensures.others c.exchange_pool.ensures.apart c.exchange_pool.ensures.owned (with_pool_of (subpools_of c.args.elements.now c.args.self.now) (subpools_of c.args.elements.now c.args.others.now) c.args.id).cells c.exchange_pool.ensures.ids

pub returns-clause-other_subpools : goal.returns-clause-other_subpools
unfolding subpools_of
returns-clause-other_subpools c = cells_are_too c.args.elements.now c.args.self.now c.args.others.now c.requires.stands c.requires.others c.requires.apart c.exchange_pool.new.elements c.exchange_pool.new.self c.exchange_pool.new.others c.exchange_pool.ensures.pools c.exchange_pool.ensures.others c.exchange_pool.ensures.apart c.exchange_pool.ensures.owned (with_pool_of (subpools_of c.args.elements.now c.args.others.now) (subpools_of c.args.elements.now c.args.self.now) c.args.id).cells c.exchange_pool.ensures.ids_back

pub returns-clause-apart : goal.returns-clause-apart
returns-clause-apart c = cells_parted c.args.elements.now c.args.self.now c.args.others.now c.requires.stands c.requires.others c.requires.apart c.exchange_pool.new.elements c.exchange_pool.new.self c.exchange_pool.new.others c.exchange_pool.ensures.pools c.exchange_pool.ensures.others c.exchange_pool.ensures.apart c.exchange_pool.ensures.owned

pub returns-clause-moves : goal.returns-clause-moves
returns-clause-moves c = cells_move c.args.elements.now c.args.self.now c.args.others.now c.requires.stands c.requires.others c.requires.apart c.exchange_pool.new.elements c.exchange_pool.new.self c.exchange_pool.new.others c.exchange_pool.ensures.pools c.exchange_pool.ensures.others c.exchange_pool.ensures.apart c.exchange_pool.ensures.owned
