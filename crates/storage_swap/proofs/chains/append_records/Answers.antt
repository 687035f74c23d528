use Rattle.std.proofs.Common.{arith}
use Rattle.vsm_elements.specs.Chain.{owned}
use Rattle.vsm_elements.proofs.OwnerLemmas.{calls_follow}
use Rattle.storage_swap.specs.Beside.{records_of}
use Rattle.storage_swap.proofs.AppendLemmas.{next-of}
use Rattle.storage_swap.proofs.chains.append_records.Goals as goal

pub loop-k-preserved : goal.loop-k-preserved
loop-k-preserved c = record {
  chain = c.append-before.ensures.chain;
  last = c.append-before.ensures.last;
  records = next-of (records_of c.args.elements.now c.args.chain.now) (records_of c.loop-k.elements c.loop-k.chain) (records_of c.append-before.new.elements c.append-before.new.chain) c.args.records.now c.loop-k.k _ c.loop-k.invariant.records c.loop-k-test.true c.append-before.ensures.records;
  owned = calls_follow c.args.elements.now c.loop-k.elements c.append-before.new.elements (owned c.args.elements.now c.args.chain.now) (owned c.loop-k.elements c.loop-k.chain) (owned c.append-before.new.elements c.append-before.new.chain) c.loop-k.invariant.owned c.append-before.ensures.owned;
  spare = omega (arith, c.loop-k.invariant.spare, c.append-before.ensures.spare);
}
