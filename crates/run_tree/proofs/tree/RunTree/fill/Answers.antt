use Rattle.std.proofs.Common.{refl}
use Rattle.run_tree.specs.Trees.{runs}
use Rattle.run_tree.proofs.TreeLemmas.{joins, over_rooms}
use Rattle.run_tree.proofs.tree.RunTree.fill.Goals as goal

pub returns-clause-joins : goal.returns-clause-joins
returns-clause-joins c =
    let s = c.args.elements.now in
    let before = c.rooms-before in
    let behind = c.rooms-behind in
    let made = c.around-rooms in
    let are = over_rooms before.result behind.result made.result (runs s c.args.left) c.args.run (runs s c.args.right)
    (before.ensures.plain, before.ensures.paged, before.ensures.total) (behind.ensures.plain, behind.ensures.paged, behind.ensures.total) made.ensures.plain made.ensures.paged made.ensures.total in
    joins s c.set.new.self c.args.left c.args.id c.args.run c.args.right c.requires.left c.requires.right c.requires.distinct c.requires.live
    made.result.plain made.result.paged made.result.total _ are.0 are.1 are.2 c.set.ensures.updates c.set.ensures.spares refl refl

pub returns-clause-rooms : goal.returns-clause-rooms
returns-clause-rooms c =
    let s = c.args.elements.now in
    let before = c.rooms-before in
    let behind = c.rooms-behind in
    let made = c.around-rooms in
    over_rooms before.result behind.result made.result (runs s c.args.left) c.args.run (runs s c.args.right)
    (before.ensures.plain, before.ensures.paged, before.ensures.total) (behind.ensures.plain, behind.ensures.paged, behind.ensures.total) made.ensures.plain made.ensures.paged made.ensures.total
