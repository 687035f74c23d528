use Rattle.std.proofs.Common.{◌<◌, ◌%◌, ◌^◌, List, ap, sym, arith}
use Rattle.run_tree.specs.declared.run.Run.{Run}
use Rattle.run_tree.specs.Shape.{longest, plain, paged, total}
use Rattle.run_tree.proofs.TreeLemmas.{no_runs, top_live, top_rooms}
use Rattle.run_tree.proofs.tree.RunTree.rooms.Goals as goal

pub returns-then-self-eq0-clause-plain : goal.returns-then-self-eq0-clause-plain
returns-then-self-eq0-clause-plain c = sym (ap (longest plain) (no_runs c.args.elements.now c.args.self c.requires.tree c.if-self-eq0.true))

pub returns-then-self-eq0-clause-paged : goal.returns-then-self-eq0-clause-paged
returns-then-self-eq0-clause-paged c = sym (ap (longest paged) (no_runs c.args.elements.now c.args.self c.requires.tree c.if-self-eq0.true))

pub returns-then-self-eq0-clause-total : goal.returns-then-self-eq0-clause-total
returns-then-self-eq0-clause-total c = sym (ap (λ (rs : List Run). total rs % 2 ^ 32) (no_runs c.args.elements.now c.args.self c.requires.tree c.if-self-eq0.true))

pub get-requires : goal.get-requires
get-requires c = let some : 0 < c.args.self.count = omega arith in top_live c.args.elements.now c.args.self c.requires.tree some

pub returns-clause-plain : goal.returns-clause-plain
returns-clause-plain c = let some : 0 < c.args.self.count = omega arith in (top_rooms c.args.elements.now c.args.self c.get.result c.requires.tree some c.get.ensures).0

pub returns-clause-paged : goal.returns-clause-paged
returns-clause-paged c = let some : 0 < c.args.self.count = omega arith in (top_rooms c.args.elements.now c.args.self c.get.result c.requires.tree some c.get.ensures).1

pub returns-clause-total : goal.returns-clause-total
returns-clause-total c = let some : 0 < c.args.self.count = omega arith in (top_rooms c.args.elements.now c.args.self c.get.result c.requires.tree some c.get.ensures).2
