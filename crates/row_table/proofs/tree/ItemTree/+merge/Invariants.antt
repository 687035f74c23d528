use Rattle.std.proofs.Common.{◌+◌}
use Rattle.row_table.specs.Trees.{count}
use Rattle.row_table.proofs.tree.ItemTree.+merge.Given as goal

abbrev pub decreases-merge : goal.decreases-merge
decreases-merge l = count l.elements.now l.self + count l.elements.now l.other
