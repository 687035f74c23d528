use Rattle.row_table.proofs.FromLemmas.{from_0, from_some, from_got}
use Rattle.row_table.proofs.tree.ItemTree.find_from.Goals as goal

pub returns-then-id-eq0 : goal.returns-then-id-eq0
returns-then-id-eq0 c = from_0 c.args.elements.now c.args.self c.requires.tree c.args.k c.first_from-id.result c.first_from-id.ensures c.if-id-eq0.true

pub get-requires-clause-there : goal.get-requires-clause-there
get-requires-clause-there c = (from_some c.args.elements.now c.args.self c.requires.tree c.args.k c.first_from-id.result c.first_from-id.ensures c.if-id-eq0.false).has

pub returns : goal.returns
returns c = from_got c.args.elements.now c.args.self c.requires.tree c.args.k c.first_from-id.result c.first_from-id.ensures c.if-id-eq0.false c.get.result c.get.ensures.named c.get.ensures.stored
