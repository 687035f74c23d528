use Rattle.std.proofs.Common.{true, false}
use Rattle.storage_changes.specs.declared.record.Record.TheVariants.{Task}
use Rattle.storage_swap.proofs.SubpoolLemmas.{exchanges-by}
use Rattle.storage_swap.proofs.TaskLemmas.{task-came, task-went, task-as}
use Rattle.storage_swap.proofs.storage.Parts.exchange_task.Goals.{then-r, else-r}
use Rattle.storage_swap.proofs.storage.Parts.exchange_task.Goals as goal

pub returns-clause-exchanges : goal.returns-clause-exchanges
returns-clause-exchanges c = λ given parked k. elim c.if-r.branch [
  | then-r w ↦ exchanges-by c.args.self.now _ c.if-r.self given parked _ (Task c.args.r) w.self-is (task-as c.args.r true w.if-r.true)
      (task-came c.args.self.now w.attach.new.elements w.attach.new.self c.args.r.task c.args.r.parent c.requires.fits.3.zeros w.attach.ensures.tree w.attach.ensures.current w.attach.ensures.words w.attach.ensures.owned
      w.attach.ensures.parents w.attach.ensures.spares given parked k)
  | else-r w ↦ exchanges-by c.args.self.now _ c.if-r.self given parked _ (Task c.args.r) w.self-is (task-as c.args.r false w.if-r.false)
      (task-went c.args.self.now w.end_task.new.elements w.end_task.new.self c.args.r.task c.args.r.parent c.requires.fits.3.zeros w.end_task.ensures.tree w.end_task.ensures.current w.end_task.ensures.words w.end_task.ensures.owned
      w.end_task.ensures.parents w.end_task.ensures.spares given parked k)
]
