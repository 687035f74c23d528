use Rattle.std.proofs.Common.{true, false}
use Rattle.storage_changes.specs.declared.record.Record.TheVariants.{Own}
use Rattle.storage_swap.proofs.SubpoolLemmas.{created, gone, own-as, exchanges-as}
use Rattle.storage_swap.proofs.storage.Parts.exchange_own.Goals as goal

pub returns-then-r : goal.returns-then-r
returns-then-r c = λ given parked k. exchanges-as c.args.self.now _ given given parked parked _ (Own c.args.r) (own-as c.args.r true c.if-r.true)
    (created c.args.self.now c.create.new.elements c.create.new.self c.args.r.subpool c.create.ensures.becomes c.create.ensures.spares given parked k)

pub returns-else-r : goal.returns-else-r
returns-else-r c = λ given parked k. exchanges-as c.args.self.now _ given given parked parked _ (Own c.args.r) (own-as c.args.r false c.if-r.false)
    (gone c.args.self.now c.remove.new.elements c.remove.new.self c.args.r.subpool c.remove.ensures.becomes c.remove.ensures.spares given parked k)
