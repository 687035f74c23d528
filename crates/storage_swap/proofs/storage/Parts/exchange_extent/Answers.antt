use Rattle.std.proofs.Common.{true, false}
use Rattle.storage_changes.specs.declared.record.Record.TheVariants.{Extent}
use Rattle.storage_swap.proofs.SubpoolLemmas.{inserted, removed, extent-as, exchanges-as}
use Rattle.storage_swap.proofs.storage.Parts.exchange_extent.Goals as goal

pub returns-then-r : goal.returns-then-r
returns-then-r c = λ given parked k. exchanges-as c.args.self.now _ given given parked parked _ (Extent c.args.r) (extent-as c.args.r true c.if-r.true)
    (inserted c.args.self.now c.insert_run.new.elements c.args.r.subpool c.args.r.run c.insert_run.ensures.becomes c.insert_run.ensures.spares given parked k)

pub returns-else-r : goal.returns-else-r
returns-else-r c = λ given parked k. exchanges-as c.args.self.now _ given given parked parked _ (Extent c.args.r) (extent-as c.args.r false c.if-r.false)
    (removed c.args.self.now c.remove_run.new.elements c.args.r.subpool c.args.r.run c.remove_run.ensures.becomes c.remove_run.ensures.spares given parked k)
