use Rattle.vsm_elements.specs.Chain.{element}
use Rattle.row_table.proofs.TreeLemmas.{owned_live}
use Rattle.row_table.proofs.ItemSetLemmas.{writes_four, six}
use Rattle.row_table.proofs.tree.ItemTree.set_last.Goals as goal

pub set_four-requires-clause-live : goal.set_four-requires-clause-live
set_four-requires-clause-live c = owned_live c.args.elements.now c.args.self c.requires.tree c.args.id c.requires.there

pub returns-clause-writes : goal.returns-clause-writes
returns-clause-writes c = writes_four c.args.elements.now c.set_four.new.self c.args.self c.requires.tree c.args.id c.requires.there c.set_four.ensures.seven c.set_four.ensures.spares c.args.four c.set_four.ensures.updates

pub returns-clause-six : goal.returns-clause-six
returns-clause-six c = six ((element c.args.elements.now c.args.id).words) c.set_four.ensures.seven
