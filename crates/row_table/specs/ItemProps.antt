-- That elements hold a tree has at most one proof.
use Rattle.std.specs.Prelude.{ℕ, List, [], ◌∷◌}
use Rattle.std.proofs.Props.{props}
use mathlib.Core.HLevel.{Unit-prop, ×_prop}
use Rattle.vsm_elements.specs.Store.{Store}
use Rattle.vsm_elements.specs.Props.{Element-set, Distinct-prop}
use Rattle.row_table.specs.declared.item.Item.{Item}
use Rattle.row_table.specs.declared.tree.ItemTree.{ItemTree}
use Rattle.row_table.specs.Items.{AllFrom, Ascends}
use Rattle.row_table.specs.Shape.{Shape, leaf, node, grown, limit, Held, IsTreeOf}
use Rattle.row_table.specs.Trees.{IsTree}

AllFrom-prop : (k : ℕ) (ns : List Item) → IsProp (AllFrom k ns)
AllFrom-prop k [] = Unit-prop
AllFrom-prop k (n ∷ ns) = ×_prop (hlevel props) (AllFrom-prop k ns)

pub Ascends-prop : (ns : List Item) → IsProp (Ascends ns)
Ascends-prop [] = Unit-prop
Ascends-prop (n ∷ ns) = ×_prop (AllFrom-prop _ ns) (Ascends-prop ns)

Held-prop : (s : Store) (t : Shape) → IsProp (Held s t)
Held-prop s leaf = Unit-prop
Held-prop s (node l id w q) = hlevel (Held-prop s l, Held-prop s q, Element-set, props)

IsTreeOf-prop : (s : Store) (id : ℕ) (t : Shape) → IsProp (IsTreeOf s id t)
IsTreeOf-prop s id t = hlevel (Held-prop, Distinct-prop, props)

pub IsTree-prop : (s : Store) (h : ItemTree) → IsProp (IsTree s h)
unfolding IsTree
IsTree-prop s h = IsTreeOf-prop s h.root (grown s limit h.root)
