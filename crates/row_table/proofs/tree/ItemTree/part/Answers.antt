use Rattle.row_table.proofs.TreeLemmas.{no_items}
use Rattle.row_table.proofs.tree.ItemTree.part.Goals as goal

pub returns-then-self-eq0-clause-none : goal.returns-then-self-eq0-clause-none
returns-then-self-eq0-clause-none c = no_items c.args.elements.now c.args.self c.if-self-eq0.true
