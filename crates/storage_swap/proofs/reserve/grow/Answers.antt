use Rattle.std.proofs.Common.{refl, arith}
use Rattle.raw_region.proofs.ForCallers.{made-after, made-none}
use Rattle.storage_swap.proofs.GrowthLemmas.{pages-stay}
use Rattle.std.proofs.lemmas.Bool.{false≢true}
use Rattle.storage_swap.proofs.reserve.grow.Goals as goal

pub returns-clause-made_for_pages : goal.returns-clause-made_for_pages
returns-clause-made_for_pages c = record {
  frames = omega (arith, c.reserve_frames.ensures.bounded, c.reserve_frames.ensures.made, c.reserve_segments.ensures.grows.counts);
  tables = made-after c.args.storage.now.region c.reserve_frames.new.self c.reserve_segments.new.self c.args.fresh.start c.args.fresh.len c.reserve_frames.ensures.tables.tables c.reserve_segments.ensures.made;
}

pub returns-in_err-reserve-clause-made_for_pages : goal.returns-in_err-reserve-clause-made_for_pages
returns-in_err-reserve-clause-made_for_pages c = pages-stay c.args.storage.now.region c.args.storage.now.region c.args.fresh refl

pub returns-in_err-reserve_frames-clause-made_for_pages : goal.returns-in_err-reserve_frames-clause-made_for_pages
returns-in_err-reserve_frames-clause-made_for_pages c = record {
  frames = omega (arith, c.reserve_frames.ensures.bounded, c.reserve_frames.ensures.made);
  tables = made-none c.args.storage.now.region c.reserve_frames.new.self c.args.fresh.start c.args.fresh.len c.reserve_frames.ensures.tables.tables;
}

pub returns-in_err-reserve_segments-clause-made_for_pages : goal.returns-in_err-reserve_segments-clause-made_for_pages
returns-in_err-reserve_segments-clause-made_for_pages c = record {
  frames = omega (arith, c.reserve_frames.ensures.bounded, c.reserve_frames.ensures.made, c.reserve_segments.ensures.grows.counts);
  tables = made-after c.args.storage.now.region c.reserve_frames.new.self c.reserve_segments.new.self c.args.fresh.start c.args.fresh.len c.reserve_frames.ensures.tables.tables c.reserve_segments.ensures.made;
}

pub returns-in_err-reserve-clause-needless : goal.returns-in_err-reserve-clause-needless
returns-in_err-reserve-clause-needless c = λ e f t. absurd (false≢true (c.in_err-reserve.ensures.needless e))
