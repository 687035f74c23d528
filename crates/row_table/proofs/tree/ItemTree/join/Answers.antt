use Rattle.std.proofs.Common.{◌≡◌, List, ℕ, ap, refl, ◌∷◌}
use Rattle.vsm_elements.specs.declared.element.Element.{Element}
use Rattle.row_table.proofs.TreeLemmas.{joins}
use Rattle.row_table.proofs.tree.ItemTree.join.Goals as goal

pub returns : goal.returns
returns c =
    let same : ◌≡◌ {A = Element} (record { next = c.args.left.root; words = c.seven.result }) (record { next = c.args.left.root; words = c.args.right.root ∷ c.args.item.words }) = ap (λ (w : List ℕ). record { next = c.args.left.root; words = w }) c.seven.ensures in
    joins c.args.elements.now c.set.new.self c.args.left c.args.item c.args.right c.requires.left c.requires.right c.requires.distinct c.requires.live _ _ same c.ids_in_range.ensures c.set.ensures.updates c.set.ensures.spares refl
