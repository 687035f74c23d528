use Rattle.std.proofs.Common.{ℕ, ◌+◌, ◌-◌, ◌%◌, ◌^◌, refl, sym, ap, ◌∙◌, arith}
use Rattle.run_tree.proofs.TotalLemmas.{total_left, counted_right}
use Rattle.run_tree.proofs.tree.RunTree.total_before.Goals as goal

pub loop-rest-preserved-then-rest-middle : goal.loop-rest-preserved-then-rest-middle
loop-rest-preserved-then-rest-middle c =
    let opens = c.open-node.ensures.opens in
    record {
      tree = opens.left;
      within = omega (arith, c.if-rest-middle.true);
      sum =
          ap (λ (n : ℕ). (c.loop-rest.numbers + n) % 2 ^ 32) (sym (total_left c.args.elements.now c.loop-rest.tree c.open-node.result opens c.loop-rest.rest (omega (arith, c.if-rest-middle.true))))
          ∙ c.loop-rest.invariant.sum;
    }

pub loop-rest-preserved : goal.loop-rest-preserved
loop-rest-preserved c =
    let opens = c.open-node.ensures.opens in
    let node = c.open-node.result in
    record {
      tree = opens.right;
      within = omega (arith, c.loop-rest.invariant.within, opens.count, c.if-rest-middle.false);
      sum = counted_right c.args.elements.now c.loop-rest.tree node opens c.loop-rest.rest (c.loop-rest.rest - node.left.count - 1) c.loop-rest.numbers c.rooms-before.result.total _ _
          (omega (arith, c.if-rest-middle.false)) c.rooms-before.ensures.total refl c.loop-rest.invariant.sum;
    }
