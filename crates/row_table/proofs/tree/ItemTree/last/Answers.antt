use Rattle.row_table.proofs.LastLemmas.{last_0, last_some, last_got}
use Rattle.row_table.proofs.tree.ItemTree.last.Goals as goal

pub returns-then-id-eq0 : goal.returns-then-id-eq0
returns-then-id-eq0 c = last_0 c.args.elements.now c.args.self c.requires c.last_or-id.result c.last_or-id.ensures c.if-id-eq0.true

pub get-requires-clause-there : goal.get-requires-clause-there
get-requires-clause-there c = (last_some c.args.elements.now c.args.self c.requires c.last_or-id.result c.last_or-id.ensures c.if-id-eq0.false).has

pub returns : goal.returns
returns c = last_got c.args.elements.now c.args.self c.requires c.last_or-id.result c.last_or-id.ensures c.if-id-eq0.false c.get.result c.get.ensures.named c.get.ensures.stored
