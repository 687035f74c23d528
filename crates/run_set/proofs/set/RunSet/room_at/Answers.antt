use Rattle.std.proofs.Common.{◌<◌, ◌+◌, length, refl}
use Rattle.run_set.specs.Kept.{runs_of}
use Rattle.run_set.proofs.PlaceLemmas.{in_runs}
use Rattle.run_set.proofs.RoomLemmas.{best_one}
use Rattle.run_set.proofs.set.RunSet.room_at.Goals as goal

pub returns : goal.returns
returns c =
    let l : c.args.at < length (runs_of c.args.elements.now c.args.self.now.tree) = in_runs c.args.elements.now c.args.self.now.tree c.requires.kept.tree c.args.at c.requires.place in
    best_one (runs_of c.args.elements.now c.args.self.now.tree) c.requires.kept.spaced c.args.region c.args.boundary c.args.at (c.args.at + 1) c.visit.result.0 l refl c.visit.ensures.run c.clipped-first.result.0 c.clipped-first.result.1 c.clipped-first.ensures c.saturating_sub.result c.saturating_sub.ensures
