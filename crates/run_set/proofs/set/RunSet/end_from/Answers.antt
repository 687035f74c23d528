use Rattle.std.proofs.Common.{◌<◌, length, arith}
use Rattle.run_set.specs.RunSet.{runs, IsRunSet}
use Rattle.run_set.specs.Kept.{runs_of, IsKept}
use Rattle.run_set.proofs.PlaceLemmas.{in_runs}
use Rattle.run_set.proofs.CoverLemmas.{length-runs, none_left, ends_here, end_of_run, end_of_gap}
use Rattle.run_set.proofs.set.RunSet.end_from.Goals as goal

pub returns-then-place-self : goal.returns-then-place-self
unfolding runs IsRunSet
returns-then-place-self c =
    let h : IsKept c.args.elements.now c.args.self.now.tree = c.requires in
    record {
      from = omega arith;
      each = λ m from below. absurd (omega (arith, from, below));
      past = none_left (runs_of c.args.elements.now c.args.self.now.tree) c.seek-sought.result.place.index c.args.n c.args.n h.spaced (omega (arith, length-runs c.args.elements.now c.args.self.now.tree h.tree, c.if-place-self.true)) c.seek-sought.ensures.before (omega arith);
    }

pub returns-then-here-n : goal.returns-then-here-n
unfolding runs IsRunSet
returns-then-here-n c =
    let h : IsKept c.args.elements.now c.args.self.now.tree = c.requires in
    let l : c.seek-sought.result.place.index < length (runs_of c.args.elements.now c.args.self.now.tree) = in_runs c.args.elements.now c.args.self.now.tree h.tree c.seek-sought.result.place.index (omega (arith, c.seek-sought.ensures.place.within, c.if-place-self.false)) in
    end_of_run (runs_of c.args.elements.now c.args.self.now.tree) c.seek-sought.result.place.index c.reached-here.result h.spaced c.reached-here.ensures.run l c.args.n (ends_here (runs_of c.args.elements.now c.args.self.now.tree) c.seek-sought.result.place.index c.args.n _ c.reached-here.ensures.run l c.seek-sought.ensures.behind) c.if-here-n.true

pub returns-else-here-n : goal.returns-else-here-n
unfolding runs IsRunSet
returns-else-here-n c =
    let h : IsKept c.args.elements.now c.args.self.now.tree = c.requires in
    let l : c.seek-sought.result.place.index < length (runs_of c.args.elements.now c.args.self.now.tree) = in_runs c.args.elements.now c.args.self.now.tree h.tree c.seek-sought.result.place.index (omega (arith, c.seek-sought.ensures.place.within, c.if-place-self.false)) in
    end_of_gap (runs_of c.args.elements.now c.args.self.now.tree) c.seek-sought.result.place.index c.reached-here.result h.spaced c.reached-here.ensures.run l c.args.n c.seek-sought.ensures.before (ends_here (runs_of c.args.elements.now c.args.self.now.tree) c.seek-sought.result.place.index c.args.n _ c.reached-here.ensures.run l c.seek-sought.ensures.behind) (omega (arith, c.if-here-n.false))
