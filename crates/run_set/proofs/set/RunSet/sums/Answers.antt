use Rattle.run_set.specs.RunSet.{runs, IsRunSet}
use Rattle.run_set.specs.Kept.{runs_of}
use Rattle.run_tree.proofs.TreeLemmas.{length-any}
use Rattle.run_set.proofs.SumLemmas.{are_sides}
use Rattle.run_set.proofs.set.RunSet.sums.Goals as goal

pub returns : goal.returns
unfolding runs IsRunSet
returns c =
    let middle = c.begin_before-middle in
    are_sides c.args.line (runs_of c.args.elements.now c.args.self.now.tree) middle.result c.args.self.now.tree.count c.sums_between.result c.sums_between-2.result
    middle.ensures.within (length-any c.args.elements.now c.args.self.now.tree) middle.ensures.low middle.ensures.high c.sums_between.ensures c.sums_between-2.ensures
