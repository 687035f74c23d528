use Rattle.std.proofs.Common.{true, false, arith}
use Rattle.storage_changes.specs.declared.record.Record.TheVariants.{CellExtent}
use Rattle.storage_swap.specs.Storage.{walk_of}
use Rattle.storage_swap.proofs.SubpoolLemmas.{exchanges-by}
use Rattle.storage_swap.proofs.CellLemmas.{extent-came, extent-went, cell-extent-as, extent-some, extent-range, extent-apart, extent-room, extent-last}
use Rattle.storage_swap.proofs.storage.Parts.exchange_cell_extent.Goals.{then-r, else-r}
use Rattle.storage_swap.proofs.storage.Parts.exchange_cell_extent.Goals as goal

pub extend-requires-clause-some : goal.extend-requires-clause-some
extend-requires-clause-some c = extent-some (walk_of c.args.self.now c.requires.fits.0 c.requires.fits.1 c.requires.fits.2) c.args.r c.requires.fits.3 c.if-r.true

pub extend-requires-clause-range : goal.extend-requires-clause-range
extend-requires-clause-range c = extent-range (walk_of c.args.self.now c.requires.fits.0 c.requires.fits.1 c.requires.fits.2) c.args.r c.requires.fits.3 c.if-r.true

pub extend-requires-clause-apart : goal.extend-requires-clause-apart
extend-requires-clause-apart c = extent-apart (walk_of c.args.self.now c.requires.fits.0 c.requires.fits.1 c.requires.fits.2) c.args.r c.requires.fits.3 c.if-r.true

pub extend-requires-clause-room : goal.extend-requires-clause-room
extend-requires-clause-room c = (let room = extent-room (walk_of c.args.self.now c.requires.fits.0 c.requires.fits.1 c.requires.fits.2) c.args.r c.requires.fits.3 c.if-r.true in omega (arith, room))

pub retract-requires-clause-last : goal.retract-requires-clause-last
retract-requires-clause-last c = extent-last (walk_of c.args.self.now c.requires.fits.0 c.requires.fits.1 c.requires.fits.2) c.args.r c.requires.fits.3 c.if-r.false

pub returns-clause-exchanges : goal.returns-clause-exchanges
returns-clause-exchanges c = λ given parked k. elim c.if-r.branch [
  | then-r w ↦ exchanges-by c.args.self.now _ c.if-r.self given parked _ (CellExtent c.args.r) w.self-is (cell-extent-as c.args.r true w.if-r.true)
      (extent-came c.args.self.now w.extend.new.elements w.extend.new.self c.args.r.pool c.args.r.start c.args.r.count w.extend.ensures.becomes w.extend.ensures.spares given parked k)
  | else-r w ↦ exchanges-by c.args.self.now _ c.if-r.self given parked _ (CellExtent c.args.r) w.self-is (cell-extent-as c.args.r false w.if-r.false)
      (extent-went c.args.self.now w.retract.new.elements w.retract.new.self c.args.r.pool c.args.r.start c.args.r.count w.retract.ensures.becomes w.retract.ensures.spares given parked k)
]
