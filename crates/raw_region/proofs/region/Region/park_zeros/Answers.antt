use Rattle.std.proofs.Common.{◌∙◌, List, length, ap, arith}
use Rattle.raw_region.specs.Frames.{PageFrame}
use Rattle.raw_region.proofs.PageSteps.{tables_behind}
use Rattle.raw_region.proofs.ParkedLemmas.{zeros_more, zeros_end}
use Rattle.raw_region.proofs.region.Region.park_zeros.Goals as goal

pub push-requires-clause-fresh : goal.push-requires-clause-fresh
push-requires-clause-fresh c = zeros_end c.loop-k.parked c.args.first c.loop-k.k c.take_zeros-held.result.page c.loop-k.invariant.frames (ap (λ (f : PageFrame). f.page) c.take_zeros-held.ensures.held)

pub loop-k-preserved : goal.loop-k-preserved
loop-k-preserved c = record {
  frames = zeros_more c.loop-k.parked c.push.new.self c.take_zeros-held.result c.args.first c.loop-k.k c.loop-k.invariant.frames c.take_zeros-held.ensures.held c.push.ensures;
  count = omega (arith, ap (λ (fs : List PageFrame). length fs) c.push.ensures, c.loop-k.invariant.count);
  pages = λ p. c.take_zeros-held.ensures.pages p ∙ c.loop-k.invariant.pages p;
  tables = tables_behind c.args.self.now c.loop-k.self c.take_zeros-held.new.self c.loop-k.invariant.tables c.take_zeros-held.ensures.tables;
  spare = omega (arith, c.take_zeros-held.ensures.spares, c.loop-k.invariant.spare);
  out = omega (arith, c.take_zeros-held.ensures.out, c.loop-k.invariant.out);
  made = c.take_zeros-held.ensures.made ∙ c.loop-k.invariant.made;
}
