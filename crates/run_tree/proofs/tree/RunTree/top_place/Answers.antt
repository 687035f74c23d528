use Rattle.run_tree.proofs.TreeLemmas.{top_live}
use Rattle.run_tree.proofs.tree.RunTree.top_place.Goals as goal

pub get-requires : goal.get-requires
get-requires c = top_live c.args.elements.now c.args.self c.requires.tree c.requires.some
