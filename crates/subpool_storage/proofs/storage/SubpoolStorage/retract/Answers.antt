use Rattle.std.proofs.Common.{◌≡◌, ℕ, refl, ap, ◌∙◌, arith}
use Rattle.std.specs.Prelude.{option_map}
use Rattle.cell_pool.specs.CellPools.{by_id}
use Rattle.cell_pool.specs.Pools.{at_id, retracted}
use Rattle.subpool_storage.specs.Subpools.{with_changed}
use Rattle.subpool_storage.specs.SubpoolStorage.{subpools_of}
use Rattle.subpool_storage.proofs.LiftLemmas.{cells_become}
use Rattle.subpool_storage.proofs.CellLemmas.{is_extended, count_is}
use Rattle.subpool_storage.proofs.storage.SubpoolStorage.retract.Goals as goal

pub retract-requires-clause-last : goal.retract-requires-clause-last
unfolding subpools_of
retract-requires-clause-last c = is_extended (by_id c.args.elements.now c.args.self.now.cells c.args.id) c.args.start c.args.count c.requires.last

pub returns-clause-becomes : goal.returns-clause-becomes
unfolding subpools_of
returns-clause-becomes c =
    let e : c.retract.result.count ≡ c.args.count = count_is (by_id c.args.elements.now c.args.self.now.cells c.args.id) c.args.start c.args.count c.retract.result c.requires.there c.requires.last c.retract.ensures.extent in
    cells_become c.args.elements.now c.retract.new.elements c.args.self.now c.retract.new.self (with_changed (subpools_of c.args.elements.now c.args.self.now) c.args.id (retracted c.args.count)) c.requires.stands c.retract.ensures.pools c.retract.ensures.owned
    (λ id. c.retract.ensures.ids id ∙ ap (λ (n : ℕ). option_map (at_id c.args.id (retracted n)) (by_id c.args.elements.now c.args.self.now.cells id)) e) refl

pub returns-clause-spares : goal.returns-clause-spares
unfolding subpools_of
returns-clause-spares c =
    let e : c.retract.result.count ≡ c.args.count = count_is (by_id c.args.elements.now c.args.self.now.cells c.args.id) c.args.start c.args.count c.retract.result c.requires.there c.requires.last c.retract.ensures.extent in
    omega (arith, c.retract.ensures.spares, e)
