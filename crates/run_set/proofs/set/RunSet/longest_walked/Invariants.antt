use Rattle.run_set.specs.Best.{IsBest}
use Rattle.run_set.specs.Kept.{runs_of}
use Rattle.run_set.proofs.set.RunSet.longest_walked.Given as goal

abbrev pub invariant-loop-at : goal.invariant-loop-at
invariant-loop-at l = IsBest (runs_of l.elements l.self.tree) l.region l.boundary 0 l.at l.most
