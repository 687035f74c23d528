use Rattle.std.proofs.Common.{◌+◌, ◌≤◌, arith}
use Rattle.run_tree.proofs.PutLemmas.{put_alone, put_first}
use Rattle.run_tree.proofs.TreeLemmas.{room_for_one}
use Rattle.run_tree.proofs.tree.RunTree.put_in.Goals as goal

pub join-requires-clause-distinct : goal.join-requires-clause-distinct
join-requires-clause-distinct c = put_alone c.args.elements.now c.args.self c.args.id c.requires.tree c.if-self-eq0.true

pub returns-then-self-eq0 : goal.returns-then-self-eq0
returns-then-self-eq0 c = put_first c.args.elements.now c.join.new.elements c.args.self c.join.result c.args.k c.args.id c.args.run c.requires.tree c.if-self-eq0.true c.join.ensures

pub overflow_add-result : goal.overflow_add-result
overflow_add-result c =
    let few : c.args.self.count + 1 ≤ 4294967040 = room_for_one c.args.elements.now c.args.self c.args.id c.requires.tree c.requires.live c.requires.apart c.ids_in_range.ensures in
    omega arith
