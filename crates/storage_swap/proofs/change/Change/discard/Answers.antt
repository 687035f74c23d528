use Rattle.storage_swap.proofs.DiscardLemmas.{records-still, parked-still, once-still, change-discarded}
use Rattle.storage_swap.proofs.change.Change.discard.Goals as goal

pub discard_elements-requires-clause-records : goal.discard_elements-requires-clause-records
discard_elements-requires-clause-records c = (records-still c.args.storage.now c.args.self c.requires c.put_back.new.self c.put_back.ensures).0

pub discard_elements-requires-clause-parked : goal.discard_elements-requires-clause-parked
discard_elements-requires-clause-parked c = (parked-still c.args.storage.now c.args.self c.requires c.put_back.new.self c.put_back.ensures).0

pub discard_elements-requires-clause-once : goal.discard_elements-requires-clause-once
discard_elements-requires-clause-once c = once-still c.args.storage.now c.args.self c.requires c.put_back.new.self c.put_back.ensures

pub returns : goal.returns
returns c = change-discarded c.args.storage.now c.args.self c.requires c.put_back.new.self c.put_back.ensures c.discard_elements.new.elements c.discard.new.self c.discard_elements.ensures.moves c.discard_elements.ensures.spares c.discard_elements.ensures.as_many
    c.discard.ensures.pages c.discard.ensures.tables c.discard.ensures.out c.discard.ensures.spares c.discard.ensures.made
