use Rattle.std.proofs.Common.{refl, arith}
use Rattle.run_set.specs.Kept.{runs_of}
use Rattle.run_tree.proofs.TreeLemmas.{length-any}
use Rattle.run_set.proofs.SumLemmas.{sides_here, is_there, sides_behind}
use Rattle.run_set.proofs.set.RunSet.begin_before.Goals as goal

pub overflow_add-result : goal.overflow_add-result
overflow_add-result c =
    let l = is_there (runs_of c.args.elements.now c.args.self.now.tree) c.requires.spaced c.args.line (record { start = c.args.line; len = 0 }) refl c.find-found.result c.find-found.ensures c.if-found-line.true in
    omega (arith, l, length-any c.args.elements.now c.args.self.now.tree)

pub returns-then-found-line-clause-within : goal.returns-then-found-line-clause-within
returns-then-found-line-clause-within c =
    let l = is_there (runs_of c.args.elements.now c.args.self.now.tree) c.requires.spaced c.args.line (record { start = c.args.line; len = 0 }) refl c.find-found.result c.find-found.ensures c.if-found-line.true in
    omega (arith, l, length-any c.args.elements.now c.args.self.now.tree)

pub returns-then-found-line-clause-low : goal.returns-then-found-line-clause-low
returns-then-found-line-clause-low c =
    (sides_behind (runs_of c.args.elements.now c.args.self.now.tree) c.requires.spaced c.args.line (record { start = c.args.line; len = 0 }) refl c.find-found.result c.find-found.ensures c.if-found-line.true).0

pub returns-then-found-line-clause-high : goal.returns-then-found-line-clause-high
returns-then-found-line-clause-high c =
    (sides_behind (runs_of c.args.elements.now c.args.self.now.tree) c.requires.spaced c.args.line (record { start = c.args.line; len = 0 }) refl c.find-found.result c.find-found.ensures c.if-found-line.true).1

pub returns-else-found-line-clause-within : goal.returns-else-found-line-clause-within
returns-else-found-line-clause-within c = omega (arith, c.find-found.ensures.seeks.within, length-any c.args.elements.now c.args.self.now.tree)

pub returns-else-found-line-clause-low : goal.returns-else-found-line-clause-low
returns-else-found-line-clause-low c =
    (sides_here (runs_of c.args.elements.now c.args.self.now.tree) c.requires.spaced c.args.line (record { start = c.args.line; len = 0 }) refl c.find-found.result c.find-found.ensures (omega (arith, c.if-found-line.false))).0

pub returns-else-found-line-clause-high : goal.returns-else-found-line-clause-high
returns-else-found-line-clause-high c =
    (sides_here (runs_of c.args.elements.now c.args.self.now.tree) c.requires.spaced c.args.line (record { start = c.args.line; len = 0 }) refl c.find-found.result c.find-found.ensures (omega (arith, c.if-found-line.false))).1
