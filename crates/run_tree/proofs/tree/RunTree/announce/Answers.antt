use Rattle.run_tree.proofs.AnnounceLemmas.{announced}
use Rattle.run_tree.proofs.tree.RunTree.announce.Goals as goal

pub returns : goal.returns
returns c = announced c.args.elements.now c.set.new.self c.args.self c.args.node c.requires.opens c.requires.linked c.args.count c.args.rooms c.set.ensures.updates c.set.ensures.spares
