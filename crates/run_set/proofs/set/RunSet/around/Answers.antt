use Rattle.std.proofs.Common.{◌<◌, ◌≤◌, length, arith}
use Rattle.run_set.specs.RunSet.{runs, IsRunSet}
use Rattle.run_set.specs.Kept.{runs_of, IsKept}
use Rattle.run_set.proofs.PlaceLemmas.{in_runs}
use Rattle.run_set.proofs.CoverLemmas.{length-runs, ends_here}
use Rattle.run_set.proofs.AroundLemmas.{gap_at_end, gap_before, held_by}
use Rattle.run_set.proofs.set.RunSet.around.Goals as goal

pub returns-then-place-self : goal.returns-then-place-self
unfolding runs IsRunSet
returns-then-place-self c =
    let h : IsKept c.args.elements.now c.args.self.now.tree = c.requires in
    let zs = runs_of c.args.elements.now c.args.self.now.tree in
    let within : c.seek-sought.result.place.index ≤ length zs = omega (arith, c.seek-sought.ensures.place.within, length-runs c.args.elements.now c.args.self.now.tree h.tree) in
    gap_at_end zs c.seek-sought.result.place.index c.args.n h.spaced within c.seek-sought.ensures.before c.passed-before.result c.passed-before.ensures
    (omega (arith, length-runs c.args.elements.now c.args.self.now.tree h.tree, c.if-place-self.true))

pub returns-then-here-n : goal.returns-then-here-n
unfolding runs IsRunSet
returns-then-here-n c =
    let h : IsKept c.args.elements.now c.args.self.now.tree = c.requires in
    let zs = runs_of c.args.elements.now c.args.self.now.tree in
    let l : c.seek-sought.result.place.index < length zs = in_runs c.args.elements.now c.args.self.now.tree h.tree c.seek-sought.result.place.index (omega (arith, c.seek-sought.ensures.place.within, c.if-place-self.false)) in
    held_by zs c.seek-sought.result.place.index c.args.n h.spaced (omega (arith, l)) c.seek-sought.ensures.before c.reached-here.result c.reached-here.ensures.run l
    (ends_here zs c.seek-sought.result.place.index c.args.n c.reached-here.result c.reached-here.ensures.run l c.seek-sought.ensures.behind) c.if-here-n.true

pub returns : goal.returns
unfolding runs IsRunSet
returns c =
    let h : IsKept c.args.elements.now c.args.self.now.tree = c.requires in
    let zs = runs_of c.args.elements.now c.args.self.now.tree in
    let l : c.seek-sought.result.place.index < length zs = in_runs c.args.elements.now c.args.self.now.tree h.tree c.seek-sought.result.place.index (omega (arith, c.seek-sought.ensures.place.within, c.if-place-self.false)) in
    gap_before zs c.seek-sought.result.place.index c.args.n h.spaced (omega (arith, l)) c.seek-sought.ensures.before c.reached-here.result c.reached-here.ensures.run l
    c.passed-before.result c.passed-before.ensures (omega (arith, c.if-here-n.false))
