use Rattle.std.proofs.Common.{◌∙◌, Option, ap, ◌++◌}
use Rattle.vsm_elements.proofs.ChainFrame.{Leaves-trans}
use Rattle.cell_pool.specs.Pools.{Pool, lies_in, only, either_of}
use Rattle.cell_pool.specs.CellPools.{pool, by_id, owned}
use Rattle.cell_pool.proofs.ExchangeLemmas.{Alike-sym, beside, both_self, both_there, none_here, none_there, both_apart, both_apart_back, both_sides, both_owned, here_names, here_ids, gone_names, gone_ids, there_names, there_ids, come_names, come_ids, is_exchanged, together, never_both}
use Rattle.cell_pool.proofs.pools.CellPools.exchange_pools.Goals as goal

pub park_pools-come-requires : goal.park_pools-come-requires
park_pools-come-requires c = (beside c.args.elements.now c.park_pools-gone.new.elements (owned c.args.elements.now c.args.self.now) (owned c.park_pools-gone.new.elements c.park_pools-gone.new.self ++ owned c.park_pools-gone.new.elements c.park_pools-gone.result.pools) c.args.others.now c.park_pools-gone.ensures.takes.owned c.requires.others c.requires.apart).0.stand

pub restore_both-requires-clause-pools : goal.restore_both-requires-clause-pools
restore_both-requires-clause-pools c =
    both_self c.park_pools-gone.ensures.takes c.park_pools-come.ensures.takes c.requires.others c.requires.apart

pub restore_both-requires-clause-there : goal.restore_both-requires-clause-there
restore_both-requires-clause-there c =
    both_there c.park_pools-gone.ensures.takes c.park_pools-come.ensures.takes c.requires.others c.requires.apart

pub restore_both-requires-clause-names : goal.restore_both-requires-clause-names
restore_both-requires-clause-names c =
    none_here c.park_pools-gone.ensures.takes c.park_pools-come.ensures.takes c.requires.others c.requires.apart (together c.args.elements.now c.args.self.now c.args.others.now c.requires.pools c.requires.others c.args.subpool c.requires.names)

pub restore_both-requires-clause-names_back : goal.restore_both-requires-clause-names_back
restore_both-requires-clause-names_back c =
    none_there c.park_pools-gone.ensures.takes c.park_pools-come.ensures.takes c.requires.others c.requires.apart (together c.args.elements.now c.args.self.now c.args.others.now c.requires.pools c.requires.others c.args.subpool c.requires.names)

pub restore_both-requires-clause-apart : goal.restore_both-requires-clause-apart
restore_both-requires-clause-apart c =
    both_apart c.park_pools-gone.ensures.takes c.park_pools-come.ensures.takes c.requires.others c.requires.apart

pub restore_both-requires-clause-apart_back : goal.restore_both-requires-clause-apart_back
restore_both-requires-clause-apart_back c =
    both_apart_back c.park_pools-gone.ensures.takes c.park_pools-come.ensures.takes c.requires.others c.requires.apart

pub restore_both-requires-clause-sides : goal.restore_both-requires-clause-sides
restore_both-requires-clause-sides c =
    both_sides c.park_pools-gone.ensures.takes c.park_pools-come.ensures.takes c.requires.others c.requires.apart

pub returns-clause-names : goal.returns-clause-names
returns-clause-names c =
    λ n. c.restore_both.ensures.names n ∙ ap (λ (z : Option Pool). either_of z (pool c.park_pools-come.new.elements c.park_pools-gone.new.self n)) (come_names c.park_pools-gone.ensures.takes c.park_pools-come.ensures.takes c.requires.others c.requires.apart n) ∙ ap (either_of (only (lies_in c.args.subpool) (pool c.args.elements.now c.args.others.now n))) (here_names c.park_pools-gone.ensures.takes c.park_pools-come.ensures.takes c.requires.others c.requires.apart n) ∙ is_exchanged (lies_in c.args.subpool) (pool c.args.elements.now c.args.self.now n) (pool c.args.elements.now c.args.others.now n) (together c.args.elements.now c.args.self.now c.args.others.now c.requires.pools c.requires.others c.args.subpool c.requires.names n)

pub returns-clause-names_back : goal.returns-clause-names_back
returns-clause-names_back c =
    λ n. c.restore_both.ensures.names_back n ∙ ap (λ (z : Option Pool). either_of z (pool c.park_pools-come.new.elements c.park_pools-come.new.self n)) (gone_names c.park_pools-gone.ensures.takes c.park_pools-come.ensures.takes c.requires.others c.requires.apart n) ∙ ap (either_of (only (lies_in c.args.subpool) (pool c.args.elements.now c.args.self.now n))) (there_names c.park_pools-gone.ensures.takes c.park_pools-come.ensures.takes c.requires.others c.requires.apart n) ∙ is_exchanged (lies_in c.args.subpool) (pool c.args.elements.now c.args.others.now n) (pool c.args.elements.now c.args.self.now n) (Alike-sym (lies_in c.args.subpool) (pool c.args.elements.now c.args.self.now n) (pool c.args.elements.now c.args.others.now n) (together c.args.elements.now c.args.self.now c.args.others.now c.requires.pools c.requires.others c.args.subpool c.requires.names n))

pub returns-clause-ids : goal.returns-clause-ids
returns-clause-ids c =
    λ i. c.restore_both.ensures.ids i ∙ ap (λ (z : Option Pool). either_of z (by_id c.park_pools-come.new.elements c.park_pools-gone.new.self i)) (come_ids c.park_pools-gone.ensures.takes c.park_pools-come.ensures.takes c.requires.others c.requires.apart i) ∙ ap (either_of (only (lies_in c.args.subpool) (by_id c.args.elements.now c.args.others.now i))) (here_ids c.park_pools-gone.ensures.takes c.park_pools-come.ensures.takes c.requires.others c.requires.apart i) ∙ is_exchanged (lies_in c.args.subpool) (by_id c.args.elements.now c.args.self.now i) (by_id c.args.elements.now c.args.others.now i) (never_both (lies_in c.args.subpool) c.args.elements.now c.args.self.now c.args.others.now c.requires.apart i)

pub returns-clause-ids_back : goal.returns-clause-ids_back
returns-clause-ids_back c =
    λ i. c.restore_both.ensures.ids_back i ∙ ap (λ (z : Option Pool). either_of z (by_id c.park_pools-come.new.elements c.park_pools-come.new.self i)) (gone_ids c.park_pools-gone.ensures.takes c.park_pools-come.ensures.takes c.requires.others c.requires.apart i) ∙ ap (either_of (only (lies_in c.args.subpool) (by_id c.args.elements.now c.args.self.now i))) (there_ids c.park_pools-gone.ensures.takes c.park_pools-come.ensures.takes c.requires.others c.requires.apart i) ∙ is_exchanged (lies_in c.args.subpool) (by_id c.args.elements.now c.args.others.now i) (by_id c.args.elements.now c.args.self.now i) (Alike-sym (lies_in c.args.subpool) (by_id c.args.elements.now c.args.self.now i) (by_id c.args.elements.now c.args.others.now i) (never_both (lies_in c.args.subpool) c.args.elements.now c.args.self.now c.args.others.now c.requires.apart i))

pub returns-clause-owned : goal.returns-clause-owned
returns-clause-owned c =
    Leaves-trans _ _ _ _ _ _ (both_owned c.park_pools-gone.ensures.takes c.park_pools-come.ensures.takes c.requires.others c.requires.apart) c.restore_both.ensures.owned
