-- That elements hold a tree has at most one proof.
use Rattle.std.proofs.Props.{props}
use mathlib.Core.HLevel.{Unit-prop}
use Rattle.vsm_elements.specs.Store.{Store}
use Rattle.vsm_elements.specs.Props.{Element-set, Distinct-prop}
use Rattle.run_tree.specs.declared.tree.RunTree.{RunTree}
use Rattle.run_tree.specs.Shape.{Shape, leaf, node, Held, grown, IsTreeOf}
use Rattle.run_tree.specs.Trees.{IsTree}

Held-prop : (s : Store) (x : Shape) → IsProp (Held s x)
Held-prop s leaf = Unit-prop
Held-prop s (node l id r q) = hlevel (Held-prop s l, Held-prop s q, Element-set, props)

IsTreeOf-prop : (s : Store) (t : RunTree) (x : Shape) → IsProp (IsTreeOf s t x)
IsTreeOf-prop s t x = hlevel (Held-prop, Distinct-prop, props)

pub IsTree-prop : (s : Store) (t : RunTree) → IsProp (IsTree s t)
unfolding IsTree
IsTree-prop s t = IsTreeOf-prop s t (grown s t.count t.root)
