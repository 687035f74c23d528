use Rattle.std.proofs.Common.{◌≡◌, ℕ, sym, subst, arith}
use Rattle.run_tree.specs.Trees.{Writes}
use Rattle.run_tree.proofs.CallLemmas.{set_parts}
use Rattle.run_tree.proofs.tree.RunTree.set.Goals as goal

pub returns-then-self-eq1-clause-runs : goal.returns-then-self-eq1-clause-runs
returns-then-self-eq1-clause-runs c =
    let s = c.args.elements.now in
    let t = c.rewrite_one.new.elements in
    let first : c.args.k ≡ 0 = omega (arith, c.requires.place, c.if-self-eq1.true) in
    let at : Writes s t c.args.self c.args.k c.args.run = subst (λ (k : ℕ). Writes s t c.args.self k c.args.run) (sym first) c.rewrite_one.ensures in
    set_parts s t c.args.self c.args.k c.args.run c.requires.tree c.requires.place at

pub returns-else-self-eq1-clause-runs : goal.returns-else-self-eq1-clause-runs
returns-else-self-eq1-clause-runs c = set_parts c.args.elements.now c.exchange.new.elements c.args.self c.args.k c.args.run c.requires.tree c.requires.place c.exchange.ensures
