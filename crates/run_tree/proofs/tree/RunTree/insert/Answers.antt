use Rattle.run_tree.proofs.PutLemmas.{taken_tree, taken_out, put_runs, put_leaves}
use Rattle.run_tree.proofs.tree.RunTree.insert.Goals as goal

pub put_in-requires-clause-tree : goal.put_in-requires-clause-tree
put_in-requires-clause-tree c = taken_tree c.args.elements.now c.take-id.new.self c.args.self.now c.take-id.result _ c.requires.tree c.take-id.ensures.fresh c.take-id.ensures.updates

pub put_in-requires-clause-apart : goal.put_in-requires-clause-apart
put_in-requires-clause-apart c = taken_out c.args.elements.now c.take-id.new.self c.args.self.now c.take-id.result _ c.requires.tree c.take-id.ensures.fresh c.take-id.ensures.updates

pub returns-clause-runs : goal.returns-clause-runs
returns-clause-runs c = put_runs c.args.elements.now c.take-id.new.self c.args.self.now c.take-id.result _ c.requires.tree c.take-id.ensures.fresh c.take-id.ensures.updates c.args.k c.args.run c.put_in.new.elements c.put_in.result c.put_in.ensures

pub returns-clause-owned : goal.returns-clause-owned
returns-clause-owned c = put_leaves c.args.elements.now c.take-id.new.self c.args.self.now c.take-id.result _ c.requires.tree c.take-id.ensures.fresh c.take-id.ensures.updates c.args.k c.args.run c.put_in.new.elements c.put_in.result c.put_in.ensures c.take-id.ensures.spares
