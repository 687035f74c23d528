use Rattle.std.proofs.Common.{◌∙◌, arith}
use Rattle.raw_region.proofs.PageSteps.{tables_behind}
use Rattle.raw_region.proofs.ParkedLemmas.{parks_more}
use Rattle.raw_region.proofs.region.Region.park.Goals as goal

pub loop-k-preserved : goal.loop-k-preserved
loop-k-preserved c = record {
  parks = parks_more c.args.self.now c.loop-k.self c.leave-held.new.self c.loop-k.parked c.push.new.self c.leave-held.result c.args.first c.loop-k.k c.loop-k.invariant.parks c.leave-held.ensures.page c.leave-held.ensures.bytes c.leave-held.ensures.updates c.push.ensures;
  tables = tables_behind c.args.self.now c.loop-k.self c.leave-held.new.self c.loop-k.invariant.tables c.leave-held.ensures.tables;
  counts = record {
    spare_is = c.leave-held.ensures.spares ∙ c.loop-k.invariant.counts.spare_is;
    out_is = omega (arith, c.leave-held.ensures.out, c.loop-k.invariant.counts.out_is);
    made_is = c.leave-held.ensures.made ∙ c.loop-k.invariant.counts.made_is;
  };
}
