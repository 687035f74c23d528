use Rattle.run_tree.proofs.PutLemmas.{top_distinct, top_live, put_top}
use Rattle.run_tree.proofs.tree.RunTree.put_over.Goals as goal

pub join-requires-clause-distinct : goal.join-requires-clause-distinct
join-requires-clause-distinct c = top_distinct c.args.elements.now c.split.new.elements c.args.self c.split.result.0 c.split.result.1 c.args.k c.args.id c.args.run c.requires.tree c.requires.live c.requires.apart c.split.ensures

pub join-requires-clause-live : goal.join-requires-clause-live
join-requires-clause-live c = top_live c.args.elements.now c.split.new.elements c.args.self c.split.result.0 c.split.result.1 c.args.k c.args.id c.args.run c.requires.tree c.requires.live c.requires.apart c.split.ensures

pub returns : goal.returns
returns c = put_top c.args.elements.now c.split.new.elements c.args.self c.split.result.0 c.split.result.1 c.args.k c.args.id c.args.run c.requires.tree c.requires.live c.requires.apart c.split.ensures c.join.new.elements c.join.result c.join.ensures
