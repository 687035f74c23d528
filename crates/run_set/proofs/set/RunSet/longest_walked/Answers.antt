use Rattle.std.proofs.Common.{◌≡◌, ◌+◌, ℕ, max, arith, subst}
use Rattle.std.proofs.lemmas.Grind.{common_steps}
use Rattle.run_set.specs.Kept.{runs_of}
use Rattle.run_set.specs.Best.{IsBest}
use Rattle.run_set.proofs.RoomLemmas.{best_join}
use Rattle.run_set.proofs.set.RunSet.longest_walked.Goals as goal

pub loop-at-preserved : goal.loop-at-preserved
loop-at-preserved c =
    let m : max c.loop-at.most c.room_at.result ≡ c.max-most.result = grind (arith, common_steps, c.max-most.ensures) in
    best_join (runs_of c.args.elements.now c.args.self.now.tree) c.requires.kept.spaced c.args.region c.args.boundary 0 c.loop-at.at (c.loop-at.at + 1) c.loop-at.most c.room_at.result c.max-most.result c.loop-at.invariant c.room_at.ensures m

pub returns : goal.returns
returns c =
    let e : c.loop-at.at ≡ c.args.self.now.tree.count = omega (arith, c.loop-at-test.false) in
    let P : ℕ → Type 0 = λ n. IsBest (runs_of c.args.elements.now c.args.self.now.tree) c.args.region c.args.boundary 0 n c.loop-at.most in
    subst P e c.loop-at.invariant
