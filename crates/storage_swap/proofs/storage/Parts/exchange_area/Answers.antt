use Rattle.std.proofs.Common.{true, false}
use Rattle.storage_changes.specs.declared.record.Record.TheVariants.{Area}
use Rattle.storage_swap.proofs.SubpoolLemmas.{freed, carved, area-as, exchanges-as}
use Rattle.storage_swap.proofs.storage.Parts.exchange_area.Goals as goal

pub returns-then-r : goal.returns-then-r
returns-then-r c = λ given parked k. exchanges-as c.args.self.now _ given given parked parked _ (Area c.args.r) (area-as c.args.r true c.if-r.true)
    (freed c.args.self.now c.free_area.new.elements c.args.r.subpool c.args.r.area c.free_area.ensures.becomes c.free_area.ensures.spares given parked k)

pub returns-else-r : goal.returns-else-r
returns-else-r c = λ given parked k. exchanges-as c.args.self.now _ given given parked parked _ (Area c.args.r) (area-as c.args.r false c.if-r.false)
    (carved c.args.self.now c.carve_area.new.elements c.args.r.subpool c.args.r.area c.carve_area.ensures.becomes c.carve_area.ensures.spares given parked k)
