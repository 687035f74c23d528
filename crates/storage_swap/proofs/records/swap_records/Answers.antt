use Rattle.storage_swap.proofs.LoopLemmas.{first-fits, turn, fewer}
use Rattle.storage_swap.proofs.records.swap_records.Goals as goal

pub swap_first-requires-clause-fits : goal.swap_first-requires-clause-fits
swap_first-requires-clause-fits c = first-fits c.args.storage.now c.loop-records.storage c.args.given.now c.loop-records.given c.args.parked.now c.loop-records.parked c.args.records.now c.loop-records.records c.loop-records.done c.loop-records.invariant c.loop-records-test.true c.requires.fits

pub loop-records-smaller : goal.loop-records-smaller
loop-records-smaller c = fewer c.args.storage.now c.loop-records.storage c.swap_first.new.storage c.args.given.now c.loop-records.given c.swap_first.new.given c.args.parked.now c.loop-records.parked c.swap_first.new.parked c.args.records.now c.loop-records.records c.loop-records.done c.swap_first.new.records c.swap_first.new.done c.loop-records.invariant c.swap_first.ensures c.loop-records-test.true

pub loop-records-preserved : goal.loop-records-preserved
loop-records-preserved c = turn c.args.storage.now c.loop-records.storage c.swap_first.new.storage c.args.given.now c.loop-records.given c.swap_first.new.given c.args.parked.now c.loop-records.parked c.swap_first.new.parked c.args.records.now c.loop-records.records c.loop-records.done c.swap_first.new.records c.swap_first.new.done c.loop-records.invariant c.swap_first.ensures c.loop-records-test.true
