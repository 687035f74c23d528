use Rattle.std.proofs.Common.{true, ◌∙◌, Some, refl}
use Rattle.subpool_set.specs.Pools.{sight_with}
use Rattle.subpool_set.specs.SubpoolSet.{sight}
use Rattle.subpool_storage.proofs.SharingLemmas.{sharer_becomes}
use Rattle.subpool_storage.proofs.storage.SubpoolStorage.share.Goals as goal

pub returns-clause-becomes : goal.returns-clause-becomes
returns-clause-becomes c =
    let seen = sight c.args.elements.now c.args.self.now.set in
    sharer_becomes c.args.elements.now c.share.new.elements c.args.self.now (record { set = c.share.new.self; cells = c.args.self.now.cells }) c.args.subpool c.args.task true refl c.requires.stands c.share.ensures.set c.share.ensures.queues c.share.ensures.owned c.share.ensures.pools
    (λ a b. c.share.ensures.sight a b ∙ (λ i. sight_with seen c.args.task (c.id-id.ensures.number i) (Some (c.id-id.ensures.owner i)) a b))
