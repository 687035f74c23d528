use Rattle.std.proofs.Common.{List, length, ap, arith, rules}
use Rattle.raw_region.specs.Frames.{PageFrame}
use Rattle.raw_region.proofs.region.Region.discard.Goals as goal

pub loop-held-preserved : goal.loop-held-preserved
loop-held-preserved c =
    let shorter = ap (λ (fs : List PageFrame). length fs) (c.pop.ensures.some c.in-Some.held c.in-Some.is) in
    record {
      pages = search rules;
      tables = search rules;
      enough = omega (arith, shorter, c.loop-held.invariant.enough);
      spare = omega (arith, shorter, c.loop-held.invariant.spare);
      out = omega (arith, shorter, c.loop-held.invariant.out);
      made = omega (arith, c.loop-held.invariant.made);
    }
