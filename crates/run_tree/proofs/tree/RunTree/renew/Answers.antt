use Rattle.run_tree.specs.Trees.{runs}
use Rattle.run_tree.proofs.TreeLemmas.{renews, over_rooms}
use Rattle.run_tree.proofs.tree.RunTree.renew.Goals as goal

pub returns-clause-joins : goal.returns-clause-joins
returns-clause-joins c =
    let s = c.args.elements.now in
    let node = c.args.node in
    let made = c.around-rooms in
    let are = over_rooms c.args.before c.args.behind made.result (runs s node.left) node.run (runs s node.right) c.requires.before c.requires.behind made.ensures.plain made.ensures.paged made.ensures.total in
    renews s c.set_four.new.self node made.result c.requires.left c.requires.right c.requires.distinct c.requires.live c.requires.linked are c.set_four.ensures.updates c.set_four.ensures.spares

pub returns-clause-rooms : goal.returns-clause-rooms
returns-clause-rooms c =
    let s = c.args.elements.now in
    let node = c.args.node in
    let made = c.around-rooms in
    over_rooms c.args.before c.args.behind made.result (runs s node.left) node.run (runs s node.right) c.requires.before c.requires.behind made.ensures.plain made.ensures.paged made.ensures.total
