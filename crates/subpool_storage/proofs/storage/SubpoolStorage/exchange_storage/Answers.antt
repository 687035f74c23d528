use Rattle.std.proofs.Common.{◌≡◌, ℕ, ◌+◌, ◌≤◌, Some}
use Rattle.subpool_set.specs.SubpoolSet.{pool}
use Rattle.subpool_storage.specs.SubpoolStorage.{hold_queues}
use Rattle.subpool_storage.proofs.PutLemmas.{pool_there}
use Rattle.subpool_storage.proofs.LiftLemmas.{SetStands, set_of, cells_of, sets_apart}
use Rattle.subpool_storage.proofs.ExchangeLemmas.{QueuesExchanged, still, still_named, exchanged}
use Rattle.subpool_storage.proofs.CellLemmas.{cells_apart, go_together, storage_stands, other_storage_stands, storage_is, other_storage_is, storage_parted, storage_moves}
use Rattle.subpool_storage.proofs.storage.SubpoolStorage.exchange_storage.Goals as goal

pub set_queues-requires-2-clause-set : goal.set_queues-requires-2-clause-set
set_queues-requires-2-clause-set c =
    let there : pool c.args.elements.now c.args.self.now.set c.args.subpool.number c.args.subpool.owner ≡ Some (record { id = c.id-id.result; queues = c.queues-here.result }) = pool_there c.args.elements.now c.args.self.now.set c.args.subpool.number c.args.subpool.owner c.id-id.result c.queues-here.result c.id-id.ensures.number c.id-id.ensures.owner c.queues-here.ensures in
    let there_too : pool c.args.elements.now c.args.others.now.set c.args.subpool.number c.args.subpool.owner ≡ Some (record { id = c.id-other.result; queues = c.queues-there.result }) = pool_there c.args.elements.now c.args.others.now.set c.args.subpool.number c.args.subpool.owner c.id-other.result c.queues-there.result c.id-other.ensures.number c.id-other.ensures.owner c.queues-there.ensures in
    let h : SetStands c.args.elements.now c.args.self.now = set_of c.args.elements.now c.args.self.now c.requires.stands in
    let g : SetStands c.args.elements.now c.args.others.now = set_of c.args.elements.now c.args.others.now c.requires.others in
    let once : (i : ℕ) → hold_queues c.args.elements.now c.args.self.now i + hold_queues c.args.elements.now c.args.others.now i ≤ 1 = sets_apart c.args.elements.now c.args.self.now c.args.others.now c.requires.apart in
    (still c.args.elements.now c.set_queues.new.elements c.args.self.now c.args.others.now c.args.subpool c.id-id.result c.id-other.result c.queues-here.result c.queues-there.result h g c.id-id.ensures.number c.id-id.ensures.owner there there_too once c.set_queues.ensures.owned).0

pub set_queues-requires-2-clause-pool : goal.set_queues-requires-2-clause-pool
set_queues-requires-2-clause-pool c =
    let there : pool c.args.elements.now c.args.self.now.set c.args.subpool.number c.args.subpool.owner ≡ Some (record { id = c.id-id.result; queues = c.queues-here.result }) = pool_there c.args.elements.now c.args.self.now.set c.args.subpool.number c.args.subpool.owner c.id-id.result c.queues-here.result c.id-id.ensures.number c.id-id.ensures.owner c.queues-here.ensures in
    let there_too : pool c.args.elements.now c.args.others.now.set c.args.subpool.number c.args.subpool.owner ≡ Some (record { id = c.id-other.result; queues = c.queues-there.result }) = pool_there c.args.elements.now c.args.others.now.set c.args.subpool.number c.args.subpool.owner c.id-other.result c.queues-there.result c.id-other.ensures.number c.id-other.ensures.owner c.queues-there.ensures in
    let h : SetStands c.args.elements.now c.args.self.now = set_of c.args.elements.now c.args.self.now c.requires.stands in
    let g : SetStands c.args.elements.now c.args.others.now = set_of c.args.elements.now c.args.others.now c.requires.others in
    let once : (i : ℕ) → hold_queues c.args.elements.now c.args.self.now i + hold_queues c.args.elements.now c.args.others.now i ≤ 1 = sets_apart c.args.elements.now c.args.self.now c.args.others.now c.requires.apart in
    (still_named c.args.elements.now c.set_queues.new.elements c.args.self.now c.args.others.now c.args.subpool c.id-id.result c.id-other.result c.queues-here.result c.queues-there.result h g c.id-id.ensures.number c.id-id.ensures.owner there there_too once c.set_queues.ensures.owned).0

pub exchange_pools-requires-clause-pools : goal.exchange_pools-requires-clause-pools
exchange_pools-requires-clause-pools c =
    let there : pool c.args.elements.now c.args.self.now.set c.args.subpool.number c.args.subpool.owner ≡ Some (record { id = c.id-id.result; queues = c.queues-here.result }) = pool_there c.args.elements.now c.args.self.now.set c.args.subpool.number c.args.subpool.owner c.id-id.result c.queues-here.result c.id-id.ensures.number c.id-id.ensures.owner c.queues-here.ensures in
    let there_too : pool c.args.elements.now c.args.others.now.set c.args.subpool.number c.args.subpool.owner ≡ Some (record { id = c.id-other.result; queues = c.queues-there.result }) = pool_there c.args.elements.now c.args.others.now.set c.args.subpool.number c.args.subpool.owner c.id-other.result c.queues-there.result c.id-other.ensures.number c.id-other.ensures.owner c.queues-there.ensures in
    let h : SetStands c.args.elements.now c.args.self.now = set_of c.args.elements.now c.args.self.now c.requires.stands in
    let g : SetStands c.args.elements.now c.args.others.now = set_of c.args.elements.now c.args.others.now c.requires.others in
    let once : (i : ℕ) → hold_queues c.args.elements.now c.args.self.now i + hold_queues c.args.elements.now c.args.others.now i ≤ 1 = sets_apart c.args.elements.now c.args.self.now c.args.others.now c.requires.apart in
    let x : QueuesExchanged c.args.elements.now c.set_queues-2.new.elements c.args.self.now c.args.others.now c.args.subpool = exchanged c.args.elements.now c.set_queues.new.elements c.args.self.now c.args.others.now c.args.subpool c.id-id.result c.id-other.result c.queues-here.result c.queues-there.result h g c.id-id.ensures.number c.id-id.ensures.owner there there_too once c.set_queues.ensures.owned c.set_queues-2.new.elements c.set_queues.ensures.set c.set_queues.ensures.sight c.set_queues.ensures.pools c.set_queues.ensures.ids c.set_queues-2.ensures.set c.set_queues-2.ensures.sight c.set_queues-2.ensures.pools c.set_queues-2.ensures.owned c.set_queues-2.ensures.ids c.requires.stands c.requires.others c.requires.apart in
    cells_of c.set_queues-2.new.elements c.args.self.now x.stands

pub exchange_pools-requires-clause-others : goal.exchange_pools-requires-clause-others
exchange_pools-requires-clause-others c =
    let there : pool c.args.elements.now c.args.self.now.set c.args.subpool.number c.args.subpool.owner ≡ Some (record { id = c.id-id.result; queues = c.queues-here.result }) = pool_there c.args.elements.now c.args.self.now.set c.args.subpool.number c.args.subpool.owner c.id-id.result c.queues-here.result c.id-id.ensures.number c.id-id.ensures.owner c.queues-here.ensures in
    let there_too : pool c.args.elements.now c.args.others.now.set c.args.subpool.number c.args.subpool.owner ≡ Some (record { id = c.id-other.result; queues = c.queues-there.result }) = pool_there c.args.elements.now c.args.others.now.set c.args.subpool.number c.args.subpool.owner c.id-other.result c.queues-there.result c.id-other.ensures.number c.id-other.ensures.owner c.queues-there.ensures in
    let h : SetStands c.args.elements.now c.args.self.now = set_of c.args.elements.now c.args.self.now c.requires.stands in
    let g : SetStands c.args.elements.now c.args.others.now = set_of c.args.elements.now c.args.others.now c.requires.others in
    let once : (i : ℕ) → hold_queues c.args.elements.now c.args.self.now i + hold_queues c.args.elements.now c.args.others.now i ≤ 1 = sets_apart c.args.elements.now c.args.self.now c.args.others.now c.requires.apart in
    let x : QueuesExchanged c.args.elements.now c.set_queues-2.new.elements c.args.self.now c.args.others.now c.args.subpool = exchanged c.args.elements.now c.set_queues.new.elements c.args.self.now c.args.others.now c.args.subpool c.id-id.result c.id-other.result c.queues-here.result c.queues-there.result h g c.id-id.ensures.number c.id-id.ensures.owner there there_too once c.set_queues.ensures.owned c.set_queues-2.new.elements c.set_queues.ensures.set c.set_queues.ensures.sight c.set_queues.ensures.pools c.set_queues.ensures.ids c.set_queues-2.ensures.set c.set_queues-2.ensures.sight c.set_queues-2.ensures.pools c.set_queues-2.ensures.owned c.set_queues-2.ensures.ids c.requires.stands c.requires.others c.requires.apart in
    cells_of c.set_queues-2.new.elements c.args.others.now x.others

pub exchange_pools-requires-clause-apart : goal.exchange_pools-requires-clause-apart
exchange_pools-requires-clause-apart c =
    let there : pool c.args.elements.now c.args.self.now.set c.args.subpool.number c.args.subpool.owner ≡ Some (record { id = c.id-id.result; queues = c.queues-here.result }) = pool_there c.args.elements.now c.args.self.now.set c.args.subpool.number c.args.subpool.owner c.id-id.result c.queues-here.result c.id-id.ensures.number c.id-id.ensures.owner c.queues-here.ensures in
    let there_too : pool c.args.elements.now c.args.others.now.set c.args.subpool.number c.args.subpool.owner ≡ Some (record { id = c.id-other.result; queues = c.queues-there.result }) = pool_there c.args.elements.now c.args.others.now.set c.args.subpool.number c.args.subpool.owner c.id-other.result c.queues-there.result c.id-other.ensures.number c.id-other.ensures.owner c.queues-there.ensures in
    let h : SetStands c.args.elements.now c.args.self.now = set_of c.args.elements.now c.args.self.now c.requires.stands in
    let g : SetStands c.args.elements.now c.args.others.now = set_of c.args.elements.now c.args.others.now c.requires.others in
    let once : (i : ℕ) → hold_queues c.args.elements.now c.args.self.now i + hold_queues c.args.elements.now c.args.others.now i ≤ 1 = sets_apart c.args.elements.now c.args.self.now c.args.others.now c.requires.apart in
    let x : QueuesExchanged c.args.elements.now c.set_queues-2.new.elements c.args.self.now c.args.others.now c.args.subpool = exchanged c.args.elements.now c.set_queues.new.elements c.args.self.now c.args.others.now c.args.subpool c.id-id.result c.id-other.result c.queues-here.result c.queues-there.result h g c.id-id.ensures.number c.id-id.ensures.owner there there_too once c.set_queues.ensures.owned c.set_queues-2.new.elements c.set_queues.ensures.set c.set_queues.ensures.sight c.set_queues.ensures.pools c.set_queues.ensures.ids c.set_queues-2.ensures.set c.set_queues-2.ensures.sight c.set_queues-2.ensures.pools c.set_queues-2.ensures.owned c.set_queues-2.ensures.ids c.requires.stands c.requires.others c.requires.apart in
    cells_apart c.set_queues-2.new.elements c.args.self.now c.args.others.now x.stands x.others x.parted

pub exchange_pools-requires-clause-names : goal.exchange_pools-requires-clause-names
exchange_pools-requires-clause-names c =
    let there : pool c.args.elements.now c.args.self.now.set c.args.subpool.number c.args.subpool.owner ≡ Some (record { id = c.id-id.result; queues = c.queues-here.result }) = pool_there c.args.elements.now c.args.self.now.set c.args.subpool.number c.args.subpool.owner c.id-id.result c.queues-here.result c.id-id.ensures.number c.id-id.ensures.owner c.queues-here.ensures in
    let there_too : pool c.args.elements.now c.args.others.now.set c.args.subpool.number c.args.subpool.owner ≡ Some (record { id = c.id-other.result; queues = c.queues-there.result }) = pool_there c.args.elements.now c.args.others.now.set c.args.subpool.number c.args.subpool.owner c.id-other.result c.queues-there.result c.id-other.ensures.number c.id-other.ensures.owner c.queues-there.ensures in
    let h : SetStands c.args.elements.now c.args.self.now = set_of c.args.elements.now c.args.self.now c.requires.stands in
    let g : SetStands c.args.elements.now c.args.others.now = set_of c.args.elements.now c.args.others.now c.requires.others in
    let once : (i : ℕ) → hold_queues c.args.elements.now c.args.self.now i + hold_queues c.args.elements.now c.args.others.now i ≤ 1 = sets_apart c.args.elements.now c.args.self.now c.args.others.now c.requires.apart in
    let x : QueuesExchanged c.args.elements.now c.set_queues-2.new.elements c.args.self.now c.args.others.now c.args.subpool = exchanged c.args.elements.now c.set_queues.new.elements c.args.self.now c.args.others.now c.args.subpool c.id-id.result c.id-other.result c.queues-here.result c.queues-there.result h g c.id-id.ensures.number c.id-id.ensures.owner there there_too once c.set_queues.ensures.owned c.set_queues-2.new.elements c.set_queues.ensures.set c.set_queues.ensures.sight c.set_queues.ensures.pools c.set_queues.ensures.ids c.set_queues-2.ensures.set c.set_queues-2.ensures.sight c.set_queues-2.ensures.pools c.set_queues-2.ensures.owned c.set_queues-2.ensures.ids c.requires.stands c.requires.others c.requires.apart in
    go_together c.args.elements.now c.set_queues-2.new.elements c.args.self.now c.args.others.now c.args.subpool x c.requires.names

pub returns-clause-stands : goal.returns-clause-stands
returns-clause-stands c =
    let there : pool c.args.elements.now c.args.self.now.set c.args.subpool.number c.args.subpool.owner ≡ Some (record { id = c.id-id.result; queues = c.queues-here.result }) = pool_there c.args.elements.now c.args.self.now.set c.args.subpool.number c.args.subpool.owner c.id-id.result c.queues-here.result c.id-id.ensures.number c.id-id.ensures.owner c.queues-here.ensures in
    let there_too : pool c.args.elements.now c.args.others.now.set c.args.subpool.number c.args.subpool.owner ≡ Some (record { id = c.id-other.result; queues = c.queues-there.result }) = pool_there c.args.elements.now c.args.others.now.set c.args.subpool.number c.args.subpool.owner c.id-other.result c.queues-there.result c.id-other.ensures.number c.id-other.ensures.owner c.queues-there.ensures in
    let h : SetStands c.args.elements.now c.args.self.now = set_of c.args.elements.now c.args.self.now c.requires.stands in
    let g : SetStands c.args.elements.now c.args.others.now = set_of c.args.elements.now c.args.others.now c.requires.others in
    let once : (i : ℕ) → hold_queues c.args.elements.now c.args.self.now i + hold_queues c.args.elements.now c.args.others.now i ≤ 1 = sets_apart c.args.elements.now c.args.self.now c.args.others.now c.requires.apart in
    let x : QueuesExchanged c.args.elements.now c.set_queues-2.new.elements c.args.self.now c.args.others.now c.args.subpool = exchanged c.args.elements.now c.set_queues.new.elements c.args.self.now c.args.others.now c.args.subpool c.id-id.result c.id-other.result c.queues-here.result c.queues-there.result h g c.id-id.ensures.number c.id-id.ensures.owner there there_too once c.set_queues.ensures.owned c.set_queues-2.new.elements c.set_queues.ensures.set c.set_queues.ensures.sight c.set_queues.ensures.pools c.set_queues.ensures.ids c.set_queues-2.ensures.set c.set_queues-2.ensures.sight c.set_queues-2.ensures.pools c.set_queues-2.ensures.owned c.set_queues-2.ensures.ids c.requires.stands c.requires.others c.requires.apart in
    storage_stands c.args.elements.now c.set_queues-2.new.elements c.args.self.now c.args.others.now c.args.subpool x c.exchange_pools.new.elements c.exchange_pools.new.self c.exchange_pools.new.others c.exchange_pools.ensures.pools c.exchange_pools.ensures.others c.exchange_pools.ensures.apart c.exchange_pools.ensures.owned

pub returns-clause-others : goal.returns-clause-others
returns-clause-others c =
    let there : pool c.args.elements.now c.args.self.now.set c.args.subpool.number c.args.subpool.owner ≡ Some (record { id = c.id-id.result; queues = c.queues-here.result }) = pool_there c.args.elements.now c.args.self.now.set c.args.subpool.number c.args.subpool.owner c.id-id.result c.queues-here.result c.id-id.ensures.number c.id-id.ensures.owner c.queues-here.ensures in
    let there_too : pool c.args.elements.now c.args.others.now.set c.args.subpool.number c.args.subpool.owner ≡ Some (record { id = c.id-other.result; queues = c.queues-there.result }) = pool_there c.args.elements.now c.args.others.now.set c.args.subpool.number c.args.subpool.owner c.id-other.result c.queues-there.result c.id-other.ensures.number c.id-other.ensures.owner c.queues-there.ensures in
    let h : SetStands c.args.elements.now c.args.self.now = set_of c.args.elements.now c.args.self.now c.requires.stands in
    let g : SetStands c.args.elements.now c.args.others.now = set_of c.args.elements.now c.args.others.now c.requires.others in
    let once : (i : ℕ) → hold_queues c.args.elements.now c.args.self.now i + hold_queues c.args.elements.now c.args.others.now i ≤ 1 = sets_apart c.args.elements.now c.args.self.now c.args.others.now c.requires.apart in
    let x : QueuesExchanged c.args.elements.now c.set_queues-2.new.elements c.args.self.now c.args.others.now c.args.subpool = exchanged c.args.elements.now c.set_queues.new.elements c.args.self.now c.args.others.now c.args.subpool c.id-id.result c.id-other.result c.queues-here.result c.queues-there.result h g c.id-id.ensures.number c.id-id.ensures.owner there there_too once c.set_queues.ensures.owned c.set_queues-2.new.elements c.set_queues.ensures.set c.set_queues.ensures.sight c.set_queues.ensures.pools c.set_queues.ensures.ids c.set_queues-2.ensures.set c.set_queues-2.ensures.sight c.set_queues-2.ensures.pools c.set_queues-2.ensures.owned c.set_queues-2.ensures.ids c.requires.stands c.requires.others c.requires.apart in
    other_storage_stands c.args.elements.now c.set_queues-2.new.elements c.args.self.now c.args.others.now c.args.subpool x c.exchange_pools.new.elements c.exchange_pools.new.self c.exchange_pools.new.others c.exchange_pools.ensures.pools c.exchange_pools.ensures.others c.exchange_pools.ensures.apart c.exchange_pools.ensures.owned

pub returns-clause-subpools : goal.returns-clause-subpools
returns-clause-subpools c =
    let there : pool c.args.elements.now c.args.self.now.set c.args.subpool.number c.args.subpool.owner ≡ Some (record { id = c.id-id.result; queues = c.queues-here.result }) = pool_there c.args.elements.now c.args.self.now.set c.args.subpool.number c.args.subpool.owner c.id-id.result c.queues-here.result c.id-id.ensures.number c.id-id.ensures.owner c.queues-here.ensures in
    let there_too : pool c.args.elements.now c.args.others.now.set c.args.subpool.number c.args.subpool.owner ≡ Some (record { id = c.id-other.result; queues = c.queues-there.result }) = pool_there c.args.elements.now c.args.others.now.set c.args.subpool.number c.args.subpool.owner c.id-other.result c.queues-there.result c.id-other.ensures.number c.id-other.ensures.owner c.queues-there.ensures in
    let h : SetStands c.args.elements.now c.args.self.now = set_of c.args.elements.now c.args.self.now c.requires.stands in
    let g : SetStands c.args.elements.now c.args.others.now = set_of c.args.elements.now c.args.others.now c.requires.others in
    let once : (i : ℕ) → hold_queues c.args.elements.now c.args.self.now i + hold_queues c.args.elements.now c.args.others.now i ≤ 1 = sets_apart c.args.elements.now c.args.self.now c.args.others.now c.requires.apart in
    let x : QueuesExchanged c.args.elements.now c.set_queues-2.new.elements c.args.self.now c.args.others.now c.args.subpool = exchanged c.args.elements.now c.set_queues.new.elements c.args.self.now c.args.others.now c.args.subpool c.id-id.result c.id-other.result c.queues-here.result c.queues-there.result h g c.id-id.ensures.number c.id-id.ensures.owner there there_too once c.set_queues.ensures.owned c.set_queues-2.new.elements c.set_queues.ensures.set c.set_queues.ensures.sight c.set_queues.ensures.pools c.set_queues.ensures.ids c.set_queues-2.ensures.set c.set_queues-2.ensures.sight c.set_queues-2.ensures.pools c.set_queues-2.ensures.owned c.set_queues-2.ensures.ids c.requires.stands c.requires.others c.requires.apart in
    storage_is c.args.elements.now c.set_queues-2.new.elements c.args.self.now c.args.others.now c.args.subpool x c.exchange_pools.new.elements c.exchange_pools.new.self c.exchange_pools.new.others c.exchange_pools.ensures.pools c.exchange_pools.ensures.others c.exchange_pools.ensures.apart c.exchange_pools.ensures.owned c.exchange_pools.ensures.ids

pub returns-clause-other_subpools : goal.returns-clause-other_subpools
returns-clause-other_subpools c =
    let there : pool c.args.elements.now c.args.self.now.set c.args.subpool.number c.args.subpool.owner ≡ Some (record { id = c.id-id.result; queues = c.queues-here.result }) = pool_there c.args.elements.now c.args.self.now.set c.args.subpool.number c.args.subpool.owner c.id-id.result c.queues-here.result c.id-id.ensures.number c.id-id.ensures.owner c.queues-here.ensures in
    let there_too : pool c.args.elements.now c.args.others.now.set c.args.subpool.number c.args.subpool.owner ≡ Some (record { id = c.id-other.result; queues = c.queues-there.result }) = pool_there c.args.elements.now c.args.others.now.set c.args.subpool.number c.args.subpool.owner c.id-other.result c.queues-there.result c.id-other.ensures.number c.id-other.ensures.owner c.queues-there.ensures in
    let h : SetStands c.args.elements.now c.args.self.now = set_of c.args.elements.now c.args.self.now c.requires.stands in
    let g : SetStands c.args.elements.now c.args.others.now = set_of c.args.elements.now c.args.others.now c.requires.others in
    let once : (i : ℕ) → hold_queues c.args.elements.now c.args.self.now i + hold_queues c.args.elements.now c.args.others.now i ≤ 1 = sets_apart c.args.elements.now c.args.self.now c.args.others.now c.requires.apart in
    let x : QueuesExchanged c.args.elements.now c.set_queues-2.new.elements c.args.self.now c.args.others.now c.args.subpool = exchanged c.args.elements.now c.set_queues.new.elements c.args.self.now c.args.others.now c.args.subpool c.id-id.result c.id-other.result c.queues-here.result c.queues-there.result h g c.id-id.ensures.number c.id-id.ensures.owner there there_too once c.set_queues.ensures.owned c.set_queues-2.new.elements c.set_queues.ensures.set c.set_queues.ensures.sight c.set_queues.ensures.pools c.set_queues.ensures.ids c.set_queues-2.ensures.set c.set_queues-2.ensures.sight c.set_queues-2.ensures.pools c.set_queues-2.ensures.owned c.set_queues-2.ensures.ids c.requires.stands c.requires.others c.requires.apart in
    other_storage_is c.args.elements.now c.set_queues-2.new.elements c.args.self.now c.args.others.now c.args.subpool x c.exchange_pools.new.elements c.exchange_pools.new.self c.exchange_pools.new.others c.exchange_pools.ensures.pools c.exchange_pools.ensures.others c.exchange_pools.ensures.apart c.exchange_pools.ensures.owned c.exchange_pools.ensures.ids_back

pub returns-clause-apart : goal.returns-clause-apart
returns-clause-apart c =
    let there : pool c.args.elements.now c.args.self.now.set c.args.subpool.number c.args.subpool.owner ≡ Some (record { id = c.id-id.result; queues = c.queues-here.result }) = pool_there c.args.elements.now c.args.self.now.set c.args.subpool.number c.args.subpool.owner c.id-id.result c.queues-here.result c.id-id.ensures.number c.id-id.ensures.owner c.queues-here.ensures in
    let there_too : pool c.args.elements.now c.args.others.now.set c.args.subpool.number c.args.subpool.owner ≡ Some (record { id = c.id-other.result; queues = c.queues-there.result }) = pool_there c.args.elements.now c.args.others.now.set c.args.subpool.number c.args.subpool.owner c.id-other.result c.queues-there.result c.id-other.ensures.number c.id-other.ensures.owner c.queues-there.ensures in
    let h : SetStands c.args.elements.now c.args.self.now = set_of c.args.elements.now c.args.self.now c.requires.stands in
    let g : SetStands c.args.elements.now c.args.others.now = set_of c.args.elements.now c.args.others.now c.requires.others in
    let once : (i : ℕ) → hold_queues c.args.elements.now c.args.self.now i + hold_queues c.args.elements.now c.args.others.now i ≤ 1 = sets_apart c.args.elements.now c.args.self.now c.args.others.now c.requires.apart in
    let x : QueuesExchanged c.args.elements.now c.set_queues-2.new.elements c.args.self.now c.args.others.now c.args.subpool = exchanged c.args.elements.now c.set_queues.new.elements c.args.self.now c.args.others.now c.args.subpool c.id-id.result c.id-other.result c.queues-here.result c.queues-there.result h g c.id-id.ensures.number c.id-id.ensures.owner there there_too once c.set_queues.ensures.owned c.set_queues-2.new.elements c.set_queues.ensures.set c.set_queues.ensures.sight c.set_queues.ensures.pools c.set_queues.ensures.ids c.set_queues-2.ensures.set c.set_queues-2.ensures.sight c.set_queues-2.ensures.pools c.set_queues-2.ensures.owned c.set_queues-2.ensures.ids c.requires.stands c.requires.others c.requires.apart in
    storage_parted c.args.elements.now c.set_queues-2.new.elements c.args.self.now c.args.others.now c.args.subpool x c.exchange_pools.new.elements c.exchange_pools.new.self c.exchange_pools.new.others c.exchange_pools.ensures.pools c.exchange_pools.ensures.others c.exchange_pools.ensures.apart c.exchange_pools.ensures.owned

pub returns-clause-moves : goal.returns-clause-moves
returns-clause-moves c =
    let there : pool c.args.elements.now c.args.self.now.set c.args.subpool.number c.args.subpool.owner ≡ Some (record { id = c.id-id.result; queues = c.queues-here.result }) = pool_there c.args.elements.now c.args.self.now.set c.args.subpool.number c.args.subpool.owner c.id-id.result c.queues-here.result c.id-id.ensures.number c.id-id.ensures.owner c.queues-here.ensures in
    let there_too : pool c.args.elements.now c.args.others.now.set c.args.subpool.number c.args.subpool.owner ≡ Some (record { id = c.id-other.result; queues = c.queues-there.result }) = pool_there c.args.elements.now c.args.others.now.set c.args.subpool.number c.args.subpool.owner c.id-other.result c.queues-there.result c.id-other.ensures.number c.id-other.ensures.owner c.queues-there.ensures in
    let h : SetStands c.args.elements.now c.args.self.now = set_of c.args.elements.now c.args.self.now c.requires.stands in
    let g : SetStands c.args.elements.now c.args.others.now = set_of c.args.elements.now c.args.others.now c.requires.others in
    let once : (i : ℕ) → hold_queues c.args.elements.now c.args.self.now i + hold_queues c.args.elements.now c.args.others.now i ≤ 1 = sets_apart c.args.elements.now c.args.self.now c.args.others.now c.requires.apart in
    let x : QueuesExchanged c.args.elements.now c.set_queues-2.new.elements c.args.self.now c.args.others.now c.args.subpool = exchanged c.args.elements.now c.set_queues.new.elements c.args.self.now c.args.others.now c.args.subpool c.id-id.result c.id-other.result c.queues-here.result c.queues-there.result h g c.id-id.ensures.number c.id-id.ensures.owner there there_too once c.set_queues.ensures.owned c.set_queues-2.new.elements c.set_queues.ensures.set c.set_queues.ensures.sight c.set_queues.ensures.pools c.set_queues.ensures.ids c.set_queues-2.ensures.set c.set_queues-2.ensures.sight c.set_queues-2.ensures.pools c.set_queues-2.ensures.owned c.set_queues-2.ensures.ids c.requires.stands c.requires.others c.requires.apart in
    storage_moves c.args.elements.now c.set_queues-2.new.elements c.args.self.now c.args.others.now c.args.subpool x c.exchange_pools.new.elements c.exchange_pools.new.self c.exchange_pools.new.others c.exchange_pools.ensures.pools c.exchange_pools.ensures.others c.exchange_pools.ensures.apart c.exchange_pools.ensures.owned
