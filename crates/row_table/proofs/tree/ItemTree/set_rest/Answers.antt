use Rattle.std.proofs.Common.{◌≡◌, ℕ, List, sym, ap, ◌∙◌, ◌∷◌, drop, get_or}
use Rattle.vsm_elements.specs.declared.element.Element.{Element}
use Rattle.vsm_elements.proofs.ChainCalls.{element_is}
use Rattle.row_table.specs.Trees.{key_at}
use Rattle.row_table.proofs.TreeLemmas.{owned_live}
use Rattle.row_table.proofs.ItemSetLemmas.{writes}
use Rattle.row_table.proofs.tree.ItemTree.set_rest.Goals as goal

pub get-old-requires : goal.get-old-requires
get-old-requires c = owned_live c.args.elements.now c.args.self c.requires.tree c.args.id c.requires.there

pub returns : goal.returns
returns c =
    let key : get_or (drop 1 c.get-old.result.words) 0 0 ≡ key_at c.args.elements.now c.args.id = ap (λ (e : Element). get_or (drop 1 e.words) 0 0) (sym (element_is c.args.elements.now c.args.id c.get-old.result c.get-old.ensures)) in
    let same : ◌≡◌ {A = Element} (record { next = c.get-old.result.next; words = c.with_rest.result }) (record { next = c.get-old.result.next; words = get_or c.get-old.result.words 0 0 ∷ key_at c.args.elements.now c.args.id ∷ c.args.rest }) =
    ap (λ (w : List ℕ). record { next = c.get-old.result.next; words = w }) (c.with_rest.ensures ∙ ap (λ (k : ℕ). get_or c.get-old.result.words 0 0 ∷ k ∷ c.args.rest) key) in
    writes c.args.elements.now c.set.new.self c.args.self c.requires.tree c.args.id c.requires.there c.get-old.result c.get-old.ensures (key_at c.args.elements.now c.args.id ∷ c.args.rest) _ same c.set.ensures.updates c.set.ensures.spares
