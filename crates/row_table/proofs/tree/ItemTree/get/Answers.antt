use Rattle.std.proofs.Common.{ℕ, List, Some, drop, sym, ap, ◌∙◌}
use Rattle.vsm_elements.specs.declared.element.Element.{Element}
use Rattle.vsm_elements.proofs.ChainCalls.{element_is}
use Rattle.row_table.proofs.TreeLemmas.{owned_live}
use Rattle.row_table.proofs.ItemSetLemmas.{got}
use Rattle.row_table.proofs.tree.ItemTree.get.Goals as goal

pub get-requires : goal.get-requires
get-requires c = owned_live c.args.elements.now c.args.self c.requires.tree c.args.id c.requires.there

pub returns-clause-item : goal.returns-clause-item
returns-clause-item c =
    got c.args.elements.now c.args.self c.requires.tree c.args.id c.requires.there c.get.result c.get.ensures
    ∙ ap (λ (w : List ℕ). Some (record { id = c.args.id; words = w })) (sym c.last_six.ensures)

pub returns-clause-stored : goal.returns-clause-stored
returns-clause-stored c = c.last_six.ensures ∙ ap (λ (e : Element). drop 1 e.words) (sym (element_is c.args.elements.now c.args.id c.get.result c.get.ensures))
