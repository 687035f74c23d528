use Rattle.std.proofs.Common.{true, false}
use Rattle.storage_changes.specs.declared.record.Record.TheVariants.{Sharer}
use Rattle.storage_swap.proofs.SubpoolLemmas.{shared, unshared, sharer-as, exchanges-by}
use Rattle.storage_swap.proofs.storage.Parts.exchange_sharer.Goals.{then-r, else-r}
use Rattle.storage_swap.proofs.storage.Parts.exchange_sharer.Goals as goal

pub returns-clause-exchanges : goal.returns-clause-exchanges
returns-clause-exchanges c = λ given parked k. elim c.if-r.branch [
  | then-r w ↦ exchanges-by c.args.self.now _ c.if-r.self given parked _ (Sharer c.args.r) w.self-is (sharer-as c.args.r true w.if-r.true)
      (shared c.args.self.now w.share.new.elements w.share.new.self c.args.r.subpool c.args.r.task w.share.ensures.becomes w.share.ensures.spares given parked k)
  | else-r w ↦ exchanges-by c.args.self.now _ c.if-r.self given parked _ (Sharer c.args.r) w.self-is (sharer-as c.args.r false w.if-r.false)
      (unshared c.args.self.now w.unshare.new.elements w.unshare.new.self c.args.r.subpool c.args.r.task w.unshare.ensures.becomes w.unshare.ensures.spares given parked k)
]
