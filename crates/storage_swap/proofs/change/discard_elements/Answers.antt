use Rattle.storage_swap.proofs.DiscardLemmas.{parked-kept, discarded, all-back}
use Rattle.storage_swap.proofs.change.discard_elements.Goals as goal

pub discard-requires-2 : goal.discard-requires-2
discard-requires-2 c = (parked-kept c.args.elements.now c.args.records c.args.parked c.requires.parked c.requires.once c.discard.new.elements c.discard.ensures.owned).0

pub returns-clause-moves : goal.returns-clause-moves
returns-clause-moves c = discarded c.args.elements.now c.args.records c.args.parked c.requires.parked c.requires.once c.discard.new.elements c.discard.ensures.owned
    c.discard-2.new.elements c.discard-2.ensures.moves

pub returns-clause-spares : goal.returns-clause-spares
returns-clause-spares c = all-back c.args.elements.now c.args.records c.args.parked c.requires.parked c.requires.once c.discard.new.elements c.discard.ensures.owned
    c.discard-2.new.elements c.discard-2.ensures.spares
