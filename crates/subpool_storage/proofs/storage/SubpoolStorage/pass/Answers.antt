use Rattle.std.proofs.Common.{refl, ◌∙◌}
use Rattle.subpool_set.specs.Pools.{sight_given, pools_given}
use Rattle.subpool_set.specs.SubpoolSet.{sight, pool}
use Rattle.subpool_storage.specs.declared.storage.SubpoolStorage.{SubpoolStorage}
use Rattle.subpool_storage.specs.SubpoolStorage.{subpools_of, Becomes}
use Rattle.subpool_storage.proofs.LiftLemmas.{cells_of}
use Rattle.subpool_storage.proofs.SharingLemmas.{queues_passed, passed_becomes, all_passed}
use Rattle.subpool_storage.proofs.storage.SubpoolStorage.pass.Goals as goal

pub hand_on-requires : goal.hand_on-requires
hand_on-requires c =
    let s = c.args.elements.now in
    let q = c.args.self.now.set in
    let r : SubpoolStorage = record { set = c.pass.new.self; cells = c.args.self.now.cells } in
    let b : Becomes s c.pass.new.elements c.args.self.now r (queues_passed (subpools_of s c.args.self.now) c.args.subpool c.args.to) = passed_becomes s c.pass.new.elements c.args.self.now r c.args.subpool c.args.to refl c.requires.stands c.pass.ensures.set c.pass.ensures.queues c.pass.ensures.owned
    (λ m l. c.pass.ensures.pools m l ∙ (λ i. pools_given (pool s q) (c.id-id.ensures.number i) (c.id-id.ensures.owner i) c.args.to m l))
    (λ a b. c.pass.ensures.sight a b ∙ (λ i. sight_given (sight s q) (c.id-id.ensures.number i) (c.id-id.ensures.owner i) c.args.to a b))
    c.requires.unseen in
    cells_of c.pass.new.elements r b.stands

pub returns-clause-becomes : goal.returns-clause-becomes
returns-clause-becomes c =
    let s = c.args.elements.now in
    let q = c.args.self.now.set in
    let r : SubpoolStorage = record { set = c.pass.new.self; cells = c.args.self.now.cells } in
    let b : Becomes s c.pass.new.elements c.args.self.now r (queues_passed (subpools_of s c.args.self.now) c.args.subpool c.args.to) = passed_becomes s c.pass.new.elements c.args.self.now r c.args.subpool c.args.to refl c.requires.stands c.pass.ensures.set c.pass.ensures.queues c.pass.ensures.owned
    (λ m l. c.pass.ensures.pools m l ∙ (λ i. pools_given (pool s q) (c.id-id.ensures.number i) (c.id-id.ensures.owner i) c.args.to m l))
    (λ a b. c.pass.ensures.sight a b ∙ (λ i. sight_given (sight s q) (c.id-id.ensures.number i) (c.id-id.ensures.owner i) c.args.to a b))
    c.requires.unseen in
    all_passed s c.pass.new.elements c.hand_on.new.elements c.args.self.now r c.args.self.now.cells c.args.subpool c.args.to b c.hand_on.ensures.pools c.hand_on.ensures.owned c.hand_on.ensures.ids
