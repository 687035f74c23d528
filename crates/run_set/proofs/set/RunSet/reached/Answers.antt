use Rattle.run_set.specs.Kept.{runs_of}
use Rattle.run_set.proofs.PlaceLemmas.{size_at, in_runs}
use Rattle.run_set.proofs.set.RunSet.reached.Goals as goal

pub returns-clause-size : goal.returns-clause-size
returns-clause-size c =
    size_at (runs_of c.args._elements.now c.args.self.now.tree) c.args.sought.place.index c.args.sought.behind c.requires.kept.spaced (c.requires.next c.requires.there) (in_runs c.args._elements.now c.args.self.now.tree c.requires.kept.tree c.args.sought.place.index c.requires.there)
