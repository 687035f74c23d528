use Rattle.std.proofs.Common.{true, false}
use Rattle.storage_changes.specs.declared.record.Record.TheVariants.{Cell}
use Rattle.storage_swap.specs.Storage.{walk_of}
use Rattle.storage_swap.proofs.SubpoolLemmas.{exchanges-by}
use Rattle.storage_swap.proofs.CellLemmas.{cell-came, cell-went, cell-as, cell-used, cell-first}
use Rattle.storage_swap.proofs.storage.Parts.exchange_cell.Goals.{then-r, else-r}
use Rattle.storage_swap.proofs.storage.Parts.exchange_cell.Goals as goal

pub put_cell-requires-clause-used : goal.put_cell-requires-clause-used
put_cell-requires-clause-used c = cell-used (walk_of c.args.self.now c.requires.fits.0 c.requires.fits.1 c.requires.fits.2) c.args.r c.requires.fits.3 c.if-r.true

pub take_cell-requires-clause-first : goal.take_cell-requires-clause-first
take_cell-requires-clause-first c = cell-first (walk_of c.args.self.now c.requires.fits.0 c.requires.fits.1 c.requires.fits.2) c.args.r c.requires.fits.3 c.if-r.false

pub returns-clause-exchanges : goal.returns-clause-exchanges
returns-clause-exchanges c = λ given parked k. elim c.if-r.branch [
  | then-r w ↦ exchanges-by c.args.self.now _ c.if-r.self given parked _ (Cell c.args.r) w.self-is (cell-as c.args.r true w.if-r.true)
      (cell-came c.args.self.now w.put_cell.new.elements w.put_cell.new.self c.args.r.pool c.args.r.cell w.put_cell.ensures.becomes w.put_cell.ensures.spares given parked k)
  | else-r w ↦ exchanges-by c.args.self.now _ c.if-r.self given parked _ (Cell c.args.r) w.self-is (cell-as c.args.r false w.if-r.false)
      (cell-went c.args.self.now w.take_cell.new.elements w.take_cell.new.self c.args.r.pool c.args.r.cell w.take_cell.ensures.becomes w.take_cell.ensures.spares given parked k)
]
