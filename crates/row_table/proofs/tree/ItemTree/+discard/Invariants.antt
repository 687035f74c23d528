use Rattle.row_table.specs.Trees.{count}
use Rattle.row_table.proofs.tree.ItemTree.+discard.Given as goal

abbrev pub decreases-discard : goal.decreases-discard
decreases-discard l = count l.elements.now l.self
