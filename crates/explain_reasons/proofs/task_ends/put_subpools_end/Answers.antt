use Rattle.std.proofs.Common.{length, ap, arith}
use Rattle.explain_reasons.proofs.Endings.{some_both, some_none}
use Rattle.explain_reasons.proofs.task_ends.put_subpools_end.Goals as goal

pub loop-subpool-init : goal.loop-subpool-init
loop-subpool-init g c = record {
  place = c.first_subpool_place-place.ensures.place c.args.storage.now;
  some = some_none (g.W.Write.contents c.args.writer.now) c.args.gathered.now;
}

pub next_subpool-requires : goal.next_subpool-requires
next_subpool-requires g c = c.loop-subpool.invariant.place

pub loop-subpool-smaller : goal.loop-subpool-smaller
loop-subpool-smaller g c = (let k = ap length c.in-Some.ensures.next in omega (arith, k))

pub loop-subpool-preserved : goal.loop-subpool-preserved
loop-subpool-preserved g c = record {
  place = c.in-Some.ensures.place;
  some = some_both (g.W.Write.contents c.args.writer.now) (g.W.Write.contents c.loop-subpool.writer) (g.W.Write.contents c.put_subpool_end.new.writer)
      c.args.gathered.now c.loop-subpool.gathered c.put_subpool_end.new.gathered c.loop-subpool.invariant.some c.put_subpool_end.ensures;
}

pub returns : goal.returns
returns g c = c.loop-subpool.invariant.some
