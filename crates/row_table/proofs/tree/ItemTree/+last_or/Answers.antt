use Rattle.row_table.proofs.LastLemmas.{none_last, last_right}
use Rattle.row_table.proofs.tree.ItemTree.+last_or.Goals as goal

pub returns-then-self-eq0 : goal.returns-then-self-eq0
returns-then-self-eq0 t c = none_last c.args.elements.now c.args.self c.args.best c.if-self-eq0.true

pub returns : goal.returns
returns t c = last_right c.args.elements.now c.args.self c.open-node.result c.open-node.ensures c.args.best _ c.last_or.ensures
