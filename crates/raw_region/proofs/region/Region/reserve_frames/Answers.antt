use Rattle.std.proofs.Common.{ap, arith}
use Rattle.raw_region.specs.Pages.{Pages}
use Rattle.raw_region.proofs.region.Region.reserve_frames.Goals as goal

pub returns-in_err-add_frame-clause-needless : goal.returns-in_err-add_frame-clause-needless
returns-in_err-add_frame-clause-needless c h = absurd (grind arith)

pub returns-clause-ok : goal.returns-clause-ok
returns-clause-ok c = omega (arith, ap (λ (s : Pages). s.spare) c.self.view_is)

pub returns-clause-bounded : goal.returns-clause-bounded
returns-clause-bounded c = c.loop-self.invariant.bounded
