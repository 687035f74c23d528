use Rattle.std.proofs.Common.{◌∙◌, Option, ap}
use Rattle.cell_pool.specs.Pools.{Pool, either_of}
use Rattle.cell_pool.specs.CellPools.{pool, by_id}
use Rattle.cell_pool.proofs.ExchangeLemmas.{stays_parked, stays_other, still_none, still_apart, back_same, back_apart, back_owned}
use Rattle.cell_pool.proofs.pools.CellPools.restore_both.Goals as goal

pub restore_pools-requires-2-clause-pools : goal.restore_pools-requires-2-clause-pools
restore_pools-requires-2-clause-pools c = (stays_other c.args.elements.now c.restore_pools.new.elements c.restore_pools.new.elements c.args.self.now c.args.others.now c.restore_pools.new.self c.args.others.now c.args.there.pools c.args.here.pools c.requires.others c.requires.there c.requires.sides c.restore_pools.ensures.owned).0.stand

pub restore_pools-requires-2-clause-parked : goal.restore_pools-requires-2-clause-parked
restore_pools-requires-2-clause-parked c = (stays_parked c.args.elements.now c.restore_pools.new.elements c.restore_pools.new.elements c.args.self.now c.args.others.now c.restore_pools.new.self c.args.others.now c.args.there.pools c.args.here.pools c.requires.others c.requires.there c.requires.sides c.restore_pools.ensures.owned).0.stand

pub restore_pools-requires-2-clause-names : goal.restore_pools-requires-2-clause-names
restore_pools-requires-2-clause-names c = still_none c.args.elements.now c.restore_pools.new.elements c.restore_pools.new.elements c.args.self.now c.args.others.now c.restore_pools.new.self c.args.others.now c.args.there.pools c.args.here.pools c.requires.others c.requires.there c.requires.sides c.restore_pools.ensures.owned c.requires.names_back

pub restore_pools-requires-2-clause-apart : goal.restore_pools-requires-2-clause-apart
restore_pools-requires-2-clause-apart c = still_apart c.args.elements.now c.restore_pools.new.elements c.restore_pools.new.elements c.args.self.now c.args.others.now c.restore_pools.new.self c.args.others.now c.args.there.pools c.args.here.pools c.requires.others c.requires.there c.requires.sides c.restore_pools.ensures.owned c.requires.apart_back

pub returns-clause-pools : goal.returns-clause-pools
returns-clause-pools c = (back_same c.args.elements.now c.restore_pools.new.elements c.restore_pools-2.new.elements c.args.self.now c.args.others.now c.restore_pools.new.self c.restore_pools-2.new.self c.args.there.pools c.args.here.pools c.requires.others c.requires.there c.requires.sides c.restore_pools.ensures.owned c.restore_pools.ensures.pools c.restore_pools-2.ensures.owned).stand

pub returns-clause-names : goal.returns-clause-names
returns-clause-names c = λ n. (back_same c.args.elements.now c.restore_pools.new.elements c.restore_pools-2.new.elements c.args.self.now c.args.others.now c.restore_pools.new.self c.restore_pools-2.new.self c.args.there.pools c.args.here.pools c.requires.others c.requires.there c.requires.sides c.restore_pools.ensures.owned c.restore_pools.ensures.pools c.restore_pools-2.ensures.owned).names n ∙ c.restore_pools.ensures.names n

pub returns-clause-names_back : goal.returns-clause-names_back
returns-clause-names_back c = λ n. c.restore_pools-2.ensures.names n ∙ ap (λ (z : Option Pool). either_of z (pool c.restore_pools.new.elements c.args.others.now n)) ((stays_parked c.args.elements.now c.restore_pools.new.elements c.restore_pools-2.new.elements c.args.self.now c.args.others.now c.restore_pools.new.self c.restore_pools-2.new.self c.args.there.pools c.args.here.pools c.requires.others c.requires.there c.requires.sides c.restore_pools.ensures.owned).0.names n) ∙ ap (either_of (pool c.args.elements.now c.args.there.pools n)) ((stays_other c.args.elements.now c.restore_pools.new.elements c.restore_pools-2.new.elements c.args.self.now c.args.others.now c.restore_pools.new.self c.restore_pools-2.new.self c.args.there.pools c.args.here.pools c.requires.others c.requires.there c.requires.sides c.restore_pools.ensures.owned).0.names n)

pub returns-clause-ids : goal.returns-clause-ids
returns-clause-ids c = λ i. (back_same c.args.elements.now c.restore_pools.new.elements c.restore_pools-2.new.elements c.args.self.now c.args.others.now c.restore_pools.new.self c.restore_pools-2.new.self c.args.there.pools c.args.here.pools c.requires.others c.requires.there c.requires.sides c.restore_pools.ensures.owned c.restore_pools.ensures.pools c.restore_pools-2.ensures.owned).ids i ∙ c.restore_pools.ensures.ids i

pub returns-clause-ids_back : goal.returns-clause-ids_back
returns-clause-ids_back c = λ i. c.restore_pools-2.ensures.ids i ∙ ap (λ (z : Option Pool). either_of z (by_id c.restore_pools.new.elements c.args.others.now i)) ((stays_parked c.args.elements.now c.restore_pools.new.elements c.restore_pools-2.new.elements c.args.self.now c.args.others.now c.restore_pools.new.self c.restore_pools-2.new.self c.args.there.pools c.args.here.pools c.requires.others c.requires.there c.requires.sides c.restore_pools.ensures.owned).0.ids i) ∙ ap (either_of (by_id c.args.elements.now c.args.there.pools i)) ((stays_other c.args.elements.now c.restore_pools.new.elements c.restore_pools-2.new.elements c.args.self.now c.args.others.now c.restore_pools.new.self c.restore_pools-2.new.self c.args.there.pools c.args.here.pools c.requires.others c.requires.there c.requires.sides c.restore_pools.ensures.owned).0.ids i)

pub returns-clause-apart : goal.returns-clause-apart
returns-clause-apart c = back_apart c.args.elements.now c.restore_pools.new.elements c.restore_pools-2.new.elements c.args.self.now c.args.others.now c.restore_pools.new.self c.restore_pools-2.new.self c.args.there.pools c.args.here.pools c.requires.others c.requires.there c.requires.sides c.restore_pools.ensures.owned c.restore_pools.ensures.pools c.restore_pools-2.ensures.owned

pub returns-clause-owned : goal.returns-clause-owned
returns-clause-owned c = back_owned c.args.elements.now c.restore_pools.new.elements c.restore_pools-2.new.elements c.args.self.now c.args.others.now c.restore_pools.new.self c.restore_pools-2.new.self c.args.there.pools c.args.here.pools c.requires.others c.requires.there c.requires.sides c.restore_pools.ensures.owned c.restore_pools.ensures.pools c.restore_pools-2.ensures.owned
