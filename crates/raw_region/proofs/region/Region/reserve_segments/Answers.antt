use Rattle.std.proofs.Common.{arith}
use Rattle.raw_region.proofs.SegmentSteps.{grows_more, made_more, tables_more}
use Rattle.raw_region.proofs.region.Region.reserve_segments.Goals as goal

pub loop-page-preserved : goal.loop-page-preserved
loop-page-preserved c = record {
  grows = grows_more c.args.self.now c.loop-page.self c.add_segment.new.self c.args.first c.args.n c.loop-page.page c.loop-page.invariant.grows c.add_segment.ensures.grows;
  made = made_more c.args.self.now c.loop-page.self c.add_segment.new.self c.args.first c.args.n c.loop-page.page c.loop-page.invariant.made c.add_segment.ensures.made c.loop-page.invariant.behind (omega arith);
  behind = omega (arith, c.loop-page.invariant.behind);
  tables = tables_more c.args.self.now c.loop-page.self c.add_segment.new.self c.args.first c.args.n c.loop-page.page c.loop-page.invariant.grows c.add_segment.ensures.grows c.loop-page.invariant.behind c.requires c.loop-page.invariant.tables c.in_ok-add_segment.ensures.ok;
}
