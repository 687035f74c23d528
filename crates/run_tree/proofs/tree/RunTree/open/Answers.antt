use Rattle.std.proofs.Common.{◌+◌, ◌≤◌, get_or, arith}
use Rattle.run_tree.proofs.TreeLemmas.{opens, opens_linked, top_live, top_rooms, left_fits}
use Rattle.run_tree.proofs.tree.RunTree.open.Goals as goal

pub get-element-requires : goal.get-element-requires
get-element-requires c = top_live c.args.elements.now c.args.self c.requires.tree c.requires.some

pub overflow_sub-result-2 : goal.overflow_sub-result-2
overflow_sub-result-2 c =
    let h : get_or c.get-element.result.words 1 0 + 1 ≤ c.args.self.count = left_fits c.args.elements.now c.args.self c.get-element.result c.requires.tree c.requires.some c.get-element.ensures in
    omega arith

pub returns-clause-opens : goal.returns-clause-opens
returns-clause-opens c = opens c.args.elements.now c.args.self c.get-element.result c.requires.tree c.requires.some c.get-element.ensures

pub returns-clause-linked : goal.returns-clause-linked
returns-clause-linked c = opens_linked c.args.elements.now c.args.self c.get-element.result c.requires.tree c.requires.some c.get-element.ensures

pub returns-clause-rooms : goal.returns-clause-rooms
returns-clause-rooms c = top_rooms c.args.elements.now c.args.self c.get-element.result c.requires.tree c.requires.some c.get-element.ensures
