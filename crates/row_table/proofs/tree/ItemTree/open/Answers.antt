use Rattle.std.proofs.Common.{List, ℕ, get_or, sym, subst}
use Rattle.row_table.specs.Trees.{Opens}
use Rattle.row_table.proofs.TreeLemmas.{opens, top_live}
use Rattle.row_table.proofs.tree.ItemTree.open.Goals as goal

pub get-next-requires : goal.get-next-requires
get-next-requires c = top_live c.args.elements.now c.args.self c.requires.tree c.requires.some

pub returns : goal.returns
returns c =
    let P : List ℕ → Type 0 = λ w. Opens c.args.elements.now c.args.self (record { left = record { root = c.get-next.result.next }; item = record { id = c.args.self.root; words = w }; right = record { root = get_or c.get-next.result.words 0 0 } }) in
    subst P (sym c.last_six.ensures) (opens c.args.elements.now c.args.self c.get-next.result c.requires.tree c.requires.some c.get-next.ensures)
