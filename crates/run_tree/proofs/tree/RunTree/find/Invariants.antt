use Rattle.std.proofs.Common.{◌+◌, ◌≤◌}
use Rattle.run_tree.specs.declared.tree.FoundRun.{FoundRun}
use Rattle.run_tree.specs.Trees.{runs, IsTree}
use Rattle.run_tree.specs.Searches.{FindsRuns}
use Rattle.run_tree.proofs.tree.RunTree.find.Given as goal

abbrev pub invariant-loop-tree : goal.invariant-loop-tree
invariant-loop-tree l = record {
  tree : IsTree l.elements l.tree;
  within : l.found.index + l.tree.count ≤ l.fn.self.count;
  rest : (f : FoundRun) → FindsRuns l.n l.found.before l.found.behind (runs l.elements l.tree) f
      → FindsRuns l.n l.fn.before l.fn.behind (runs l.elements l.fn.self) (record { index = l.found.index + f.index; before = f.before; behind = f.behind });
}

abbrev pub decreases-loop-tree : goal.decreases-loop-tree
decreases-loop-tree l = l.tree.count
