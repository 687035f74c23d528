use Rattle.std.proofs.Common.{ℕ, ◌+◌, List, ◌++◌, length, ap, sym, ◌∙◌, arith}
use Rattle.run_set.specs.Runs.{Run}
use Rattle.subpool_storage.specs.SubpoolStorage.{subpools_of}
use Rattle.storage_changes.specs.Changes.{change_from}
use Rattle.storage_swap.specs.Reserve.{emptying}
use Rattle.storage_swap.proofs.ReserveLemmas.{reserves, meant-records, meant-blanks, meant-parked, meant-frames, parts-take, room-parked, parked-range}
use Rattle.storage_swap.proofs.AsideLemmas.{aside-same}
use Rattle.storage_swap.proofs.reserve.make.Goals as goal

pub take_records-records-requires-clause-room : goal.take_records-records-requires-clause-room
take_records-records-requires-clause-room c =
    omega (arith, c.requires.spare, parts-take (subpools_of c.args.storage.now.elements c.args.storage.now.subpools) c.args.emptied (length c.args.records.now) c.args.blanks, ap (λ (rs : List Run). length (emptying c.args.emptied rs)) c.requires.runs)

pub overflow_add-blanks : goal.overflow_add-blanks
overflow_add-blanks c = omega (arith, c.requires.size, c.count.ensures c.args.storage.now.elements, c.requires.few)

pub set_aside-requires : goal.set_aside-requires
set_aside-requires c =
    omega (arith, c.requires.spare, c.take_records-records.ensures.spare, c.count.ensures c.args.storage.now.elements, parts-take (subpools_of c.args.storage.now.elements c.args.storage.now.subpools) c.args.emptied (length c.args.records.now) c.args.blanks, ap (λ (rs : List Run). length rs) c.requires.runs, ap (λ (rs : List Run). length (emptying c.args.emptied rs)) c.requires.runs)

pub park_empty-parked-requires-clause-range : goal.park_empty-parked-requires-clause-range
park_empty-parked-requires-clause-range c = parked-range c.args.storage.now.elements c.args.storage.now.subpools c.requires.stands.subpools c.args.emptied c.requires.there

pub park_empty-parked-requires-clause-room : goal.park_empty-parked-requires-clause-room
park_empty-parked-requires-clause-room c = room-parked c.args.emptied c.set_aside.new.self.spare
    (omega (arith, c.requires.spare, c.take_records-records.ensures.spare, c.set_aside.ensures.spare, c.count.ensures c.args.storage.now.elements, parts-take (subpools_of c.args.storage.now.elements c.args.storage.now.subpools) c.args.emptied (length c.args.records.now) c.args.blanks, ap (λ (rs : List Run). length rs) c.requires.runs, ap (λ (rs : List Run). length (emptying c.args.emptied rs)) c.requires.runs))

pub returns-clause-reserves : goal.returns-clause-reserves
returns-clause-reserves c =
    let m = (subpools_of c.args.storage.now.elements c.args.storage.now.subpools) in
    reserves c.args.storage.now (change_from m c.args.emptied c.args.records.now c.args.blanks c.args.fresh) c.args.fresh c.requires.stands c.requires.once c.requires.frameless c.requires.tables
    (meant-frames m c.args.records.now c.args.blanks c.args.fresh c.args.emptied)
    c.park_zeros-frames.new.self c.park_zeros-frames.result c.park_zeros-frames.ensures.frames c.park_zeros-frames.ensures.pages c.park_zeros-frames.ensures.tables c.park_zeros-frames.ensures.count c.park_zeros-frames.ensures.out
    c.take_records-records.new.elements c.take_records-records.result c.take_records-records.ensures.chain
    (c.take_records-records.ensures.records ∙ ap (λ (rs : List Run). emptying c.args.emptied rs ++ c.args.records.now) c.requires.runs ∙ sym (meant-records m c.args.records.now c.args.blanks c.args.fresh c.args.emptied))
    c.take_records-records.ensures.owned
    c.set_aside.new.self _
    (ap (λ (n : ℕ). n + c.args.blanks) (c.count.ensures c.args.storage.now.elements ∙ ap (λ (rs : List Run). length rs) c.requires.runs) ∙ sym (meant-blanks m c.args.records.now c.args.blanks c.args.fresh c.args.emptied))
    c.set_aside.ensures
    c.park_empty-parked.new.elements c.park_empty-parked.result c.park_empty-parked.ensures.stands
    (c.park_empty-parked.ensures.subpools ∙ sym (meant-parked m c.args.records.now c.args.blanks c.args.fresh c.args.emptied))
    c.park_empty-parked.ensures.moves (aside-same c.set_aside.new.self c.park_empty-parked.new.elements c.park_empty-parked.ensures.as_many)

pub returns-clause-spare : goal.returns-clause-spare
returns-clause-spare c =
    omega (arith, c.take_records-records.ensures.spare, c.set_aside.ensures.spare, c.park_empty-parked.ensures.spare, c.count.ensures c.args.storage.now.elements, parts-take (subpools_of c.args.storage.now.elements c.args.storage.now.subpools) c.args.emptied (length c.args.records.now) c.args.blanks, ap (λ (rs : List Run). length rs) c.requires.runs, ap (λ (rs : List Run). length (emptying c.args.emptied rs)) c.requires.runs)
