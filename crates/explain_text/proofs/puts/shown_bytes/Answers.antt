use Rattle.std.proofs.Common.{arith}
use Rattle.explain_text.proofs.Columns.{shown_next}
use Rattle.explain_text.proofs.puts.shown_bytes.Goals as goal

pub loop-at-preserved : goal.loop-at-preserved
loop-at-preserved c = record {
  text = shown_next c.args.bytes.now c.loop-at.at _ _ _ c.loop-at.invariant.text c.shown_at.ensures c.push.ensures.items;
  len = omega (arith, c.push.ensures.len, c.loop-at.invariant.len);
}
