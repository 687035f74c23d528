use Rattle.std.proofs.Common.{sym}
use Rattle.run_tree.proofs.CutOutLemmas.{cut_live, rest_tree, rest_runs, rest_leaves}
use Rattle.run_tree.proofs.tree.RunTree.remove.Goals as goal

pub give-requires : goal.give-requires
give-requires c = cut_live c.args.elements.now c.cut_out-id.new.elements c.args.self.now c.cut_out-id.result.0 c.args.k c.cut_out-id.result.1 c.requires.tree c.cut_out-id.ensures

pub returns-clause-tree : goal.returns-clause-tree
returns-clause-tree c = rest_tree c.args.elements.now c.cut_out-id.new.elements c.args.self.now c.cut_out-id.result.0 c.args.k c.cut_out-id.result.1 c.requires.tree c.cut_out-id.ensures c.give.new.self c.give.ensures.updates c.give.ensures.spares

pub returns-clause-runs : goal.returns-clause-runs
returns-clause-runs c = rest_runs c.args.elements.now c.cut_out-id.new.elements c.args.self.now c.cut_out-id.result.0 c.args.k c.cut_out-id.result.1 c.requires.tree c.cut_out-id.ensures c.give.new.self c.give.ensures.updates c.give.ensures.spares

pub returns-clause-owned : goal.returns-clause-owned
returns-clause-owned c = rest_leaves c.args.elements.now c.cut_out-id.new.elements c.args.self.now c.cut_out-id.result.0 c.args.k c.cut_out-id.result.1 c.requires.tree c.cut_out-id.ensures c.give.new.self c.give.ensures.updates c.give.ensures.spares

pub returns-clause-spares : goal.returns-clause-spares
returns-clause-spares c = rw (sym c.cut_out-id.ensures.spare) (assumption)
