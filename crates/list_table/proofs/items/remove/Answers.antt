use Rattle.std.proofs.Common.{◌≡◌, ◌+◌, ◌-◌, ◌≤◌, ℕ, ap, ◌∙◌, arith, drop, length}
use Rattle.vsm_elements.specs.Chain.{links}
use Rattle.vsm_elements.proofs.ChainFrame.{Leaves-trans}
use Rattle.list_table.proofs.ItemLemmas.{out_count, out_take, out_drop, out_items}
use Rattle.list_table.proofs.items.remove.Goals as goal

pub loop-left-preserved : goal.loop-left-preserved
loop-left-preserved c =
    let high : c.args.k ≤ length (links c.loop-left.elements c.loop-left.list) = omega (arith, c.loop-left.invariant.chain.count, c.loop-left.invariant.reach, c.requires.within) in
    let e : c.args.k + (c.args.count - c.loop-left.left) + 1 ≡ c.args.k + (c.args.count - (c.loop-left.left - 1)) = omega arith in
    record {
      chain = c.remove.ensures.chain;
      within = omega arith;
      front = out_take (links c.args.elements.now c.args.list.now) (links c.loop-left.elements c.loop-left.list) _ c.args.k high c.loop-left.invariant.front c.remove.ensures.links;
      behind = out_drop (links c.args.elements.now c.args.list.now) (links c.loop-left.elements c.loop-left.list) _ c.args.k (c.args.k + (c.args.count - c.loop-left.left)) high c.loop-left.invariant.behind c.remove.ensures.links ∙ ap (λ (z : ℕ). drop z (links c.args.elements.now c.args.list.now)) e;
      reach = omega (arith, c.remove.ensures.chain.count, c.loop-left.invariant.chain.count, c.loop-left.invariant.reach, out_count (links c.loop-left.elements c.loop-left.list) _ c.args.k (omega (arith, c.loop-left.invariant.chain.count, c.loop-left.invariant.reach, c.requires.within)) c.remove.ensures.links);
      owned = Leaves-trans _ _ _ _ _ _ c.loop-left.invariant.owned c.remove.ensures.owned;
      spares = omega arith;
    }

pub returns-clause-items : goal.returns-clause-items
returns-clause-items c =
    let e : c.args.k + (c.args.count - c.loop-left.left) ≡ c.args.k + c.args.count = omega arith in
    out_items (links c.args.elements.now c.args.list.now) (links c.loop-left.elements c.loop-left.list) c.args.k (c.args.k + c.args.count) c.loop-left.invariant.front (c.loop-left.invariant.behind ∙ ap (λ (z : ℕ). drop z (links c.args.elements.now c.args.list.now)) e)
