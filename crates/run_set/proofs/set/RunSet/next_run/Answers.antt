use Rattle.std.proofs.Common.{sym, arith}
use Rattle.run_set.specs.RunSet.{runs, place_index}
use Rattle.run_set.specs.Kept.{runs_of}
use Rattle.run_tree.proofs.TreeLemmas.{length-any}
use Rattle.run_set.proofs.PlaceLemmas.{get_past}
use Rattle.run_set.proofs.set.RunSet.next_run.Goals as goal

pub returns-then-place-self-clause-run : goal.returns-then-place-self-clause-run
unfolding runs place_index
returns-then-place-self-clause-run c = sym (get_past (runs_of c.args.elements.now c.args.self.now.tree) c.args.place.index (omega (arith, c.if-place-self.true, length-any c.args.elements.now c.args.self.now.tree)))
