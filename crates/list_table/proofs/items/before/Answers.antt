use Rattle.std.proofs.Common.{arith}
use Rattle.vsm_elements.specs.Chain.{links}
use Rattle.list_table.proofs.ItemLemmas.{step_before, count_is}
use Rattle.list_table.proofs.items.before.Goals as goal

pub loop-i-preserved : goal.loop-i-preserved
loop-i-preserved c = record {
  place = step_before (links c.args.elements.now c.args.list) c.loop-i.i c.loop-i.id c.next-id.result (count_is c.args.elements.now c.args.list c.requires.chain c.loop-i.i (omega (arith, c.requires.within))) c.next-id.ensures;
  within = omega arith;
}
