use Rattle.std.proofs.Common.{◌-◌, ◌∙◌, sym, arith, refl, rules}
use Rattle.run_tree.proofs.TreeLemmas.{length-tree}
use Rattle.run_tree.proofs.AnnounceLemmas.{place_left, place_right}
use Rattle.run_tree.proofs.BelowLemmas.{was_left, was_right, cut_left_below, cut_right_below}
use Rattle.run_tree.proofs.tree.RunTree.+cut_below.Goals as goal

pub cut_below-requires : goal.cut_below-requires
cut_below-requires t c = (
  search rules,
  (
    c.announce.ensures.opens.left,
    (
      c.if-k-middle.true,
      (λ e. c.if-k-top_place.true (e ∙ place_left c.args.elements.now c.announce.new.elements c.args.self c.open-node.result (c.open-node.result.left.count - 1) c.in-Some.rooms c.announce.ensures (omega (arith, c.if-k-middle.true)) ∙ sym c.top_place.ensures), was_left c.args.elements.now c.announce.new.elements c.args.self c.open-node.result (c.open-node.result.left.count - 1) c.in-Some.rooms c.of.result c.none.result c.announce.ensures c.args.k c.args.was (omega (arith, c.requires.place, length-tree c.args.elements.now c.args.self c.requires.tree)) c.requires.was c.open-node.ensures.rooms c.of.ensures c.in-Some.ensures c.if-k-middle.true),
    ),
  ),
)

pub returns-then-k-top_place : goal.returns-then-k-top_place
returns-then-k-top_place t c = cut_left_below c.args.elements.now c.announce.new.elements c.args.self c.open-node.result (c.open-node.result.left.count - 1) c.in-Some.rooms c.of.result c.none.result c.announce.ensures c.args.k c.args.was (omega (arith, c.requires.place, length-tree c.args.elements.now c.args.self c.requires.tree)) c.requires.was c.open-node.ensures.rooms c.of.ensures c.in-Some.ensures c.none.ensures c.cut_below.new.elements c.cut_below.result refl c.if-k-middle.true c.cut_below.ensures

pub cut_below-requires-then-k-middle-3 : goal.cut_below-requires-then-k-middle-3
cut_below-requires-then-k-middle-3 t c = (
  search rules,
  (
    c.announce-then-k-middle-3.ensures.opens.right,
    (
      (omega (arith, c.requires.place, c.if-k-middle-2.true, c.open-node.ensures.opens.count)),
      (λ e. c.if-k-middle-3.true (e ∙ place_right c.args.elements.now c.announce-then-k-middle-3.new.elements c.args.self c.open-node.result c.open-node.result.left.count c.in-Some.rooms c.announce-then-k-middle-3.ensures (omega (arith, c.requires.place, c.if-k-middle-2.true, c.open-node.ensures.opens.count)) ∙ sym c.top_place-then-k-middle-2.ensures), was_right c.args.elements.now c.announce-then-k-middle-3.new.elements c.args.self c.open-node.result c.open-node.result.left.count c.in-Some.rooms c.of.result c.none.result c.announce-then-k-middle-3.ensures c.args.k c.args.was (omega (arith, c.requires.place, length-tree c.args.elements.now c.args.self c.requires.tree)) c.requires.was c.open-node.ensures.rooms c.of.ensures c.in-Some.ensures (c.args.k - c.open-node.result.left.count - 1) (omega (arith, c.if-k-middle-2.true)) (omega (arith, c.requires.place, c.if-k-middle-2.true, c.open-node.ensures.opens.count))),
    ),
  ),
)

pub returns-then-k-middle-3 : goal.returns-then-k-middle-3
returns-then-k-middle-3 t c = cut_right_below c.args.elements.now c.announce-then-k-middle-3.new.elements c.args.self c.open-node.result c.open-node.result.left.count c.in-Some.rooms c.of.result c.none.result c.announce-then-k-middle-3.ensures c.args.k c.args.was (omega (arith, c.requires.place, length-tree c.args.elements.now c.args.self c.requires.tree)) c.requires.was c.open-node.ensures.rooms c.of.ensures c.in-Some.ensures c.none.ensures c.cut_below-then-k-middle-3.new.elements c.cut_below-then-k-middle-3.result (c.args.k - c.open-node.result.left.count - 1) refl c.if-k-middle-2.true refl (omega (arith, c.requires.place, c.if-k-middle-2.true, c.open-node.ensures.opens.count)) c.cut_below-then-k-middle-3.ensures
