use Rattle.std.proofs.Common.{◌≡◌, ◌<◌, ◌≤◌, length, arith}
use Rattle.run_set.specs.Kept.{runs_of}
use Rattle.run_tree.proofs.TreeLemmas.{length-any}
use Rattle.run_set.proofs.SumLemmas.{no_sums, no_less, before_end, sums_are}
use Rattle.run_set.proofs.set.RunSet.sums_between.Goals as goal

pub returns-then-from-to : goal.returns-then-from-to
returns-then-from-to c = no_sums (runs_of c.args.elements.now c.args.self.now.tree) c.args.from c.args.to c.if-from-to.true

pub get-run-requires-clause-place : goal.get-run-requires-clause-place
get-run-requires-clause-place c =
    let zs = runs_of c.args.elements.now c.args.self.now.tree in
    let len : length zs ≡ c.args.self.now.tree.count = length-any c.args.elements.now c.args.self.now.tree in
    let low : c.args.from < c.args.to = omega (arith, c.requires.place.0, c.if-from-to.false) in
    let within : c.args.to ≤ length zs = omega (arith, len, c.requires.place.1) in
    omega (arith, c.requires.place.1, before_end zs c.requires.kept.spaced c.args.from c.args.to low within c.most_room-longest.result c.most_room-longest.ensures c.first_room-first.result c.first_room-first.ensures)

pub overflow_sub-result : goal.overflow_sub-result
overflow_sub-result c =
    no_less (runs_of c.args.elements.now c.args.self.now.tree) c.requires.kept.spaced c.args.from c.args.to c.total_before-before.result c.total_before-total.result c.requires.place.0 c.total_before-before.ensures c.total_before-total.ensures

pub returns : goal.returns
returns c =
    let zs = runs_of c.args.elements.now c.args.self.now.tree in
    let len : length zs ≡ c.args.self.now.tree.count = length-any c.args.elements.now c.args.self.now.tree in
    let low : c.args.from < c.args.to = omega (arith, c.requires.place.0, c.if-from-to.false) in
    let within : c.args.to ≤ length zs = omega (arith, len, c.requires.place.1) in
    sums_are zs c.requires.kept.spaced c.args.from c.args.to low within c.most_room-longest.result c.most_room-longest.ensures c.first_room-first.result c.first_room-first.ensures
    c.get-run.result c.get-run.ensures c.total_before-before.result c.total_before-total.result c.total_before-before.ensures c.total_before-total.ensures
