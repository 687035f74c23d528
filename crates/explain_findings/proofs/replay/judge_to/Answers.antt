use Rattle.std.proofs.Common.{◌≡◌, subst, arith}
use Rattle.explain_findings.specs.Replays.{GoesTo}
use Rattle.explain_findings.proofs.replay.judge_to.Goals as goal

pub returns-clause-goes_to : goal.returns-clause-goes_to
returns-clause-goes_to c =
    let last : c.loop-i.i ≡ c.args.to = omega arith in
    subst (λ k. GoesTo c.args.entries.now c.args.from k c.args.replay.now c.loop-i.replay) last c.loop-i.invariant.0
