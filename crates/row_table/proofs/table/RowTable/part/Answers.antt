use Rattle.std.proofs.Common.{sym, ap, ◌∙◌, ◌++◌, ◌∷◌}
use Rattle.row_table.specs.Trees.{items}
use Rattle.row_table.specs.declared.row.Row.{Row}
use Rattle.row_table.specs.RowTable.{rows, IsTable}
use Rattle.row_table.proofs.HalfLemmas.{half_kept, rows-append, rows_in}
use Rattle.row_table.proofs.table.RowTable.part.Goals as goal

pub returns-in-Some-clause-before : goal.returns-in-Some-clause-before
unfolding IsTable
returns-in-Some-clause-before c = (half_kept c.args.elements.now c.args.self.now.tree c.in-Some.node c.requires c.in-Some.ensures.some).0

pub returns-in-Some-clause-behind : goal.returns-in-Some-clause-behind
unfolding IsTable
returns-in-Some-clause-behind c = (half_kept c.args.elements.now c.args.self.now.tree c.in-Some.node c.requires c.in-Some.ensures.some).1

pub returns-in-Some-clause-parts : goal.returns-in-Some-clause-parts
unfolding rows
returns-in-Some-clause-parts c =
    let s = c.args.elements.now in
    let n = c.in-Some.node in
    ap rows_in c.in-Some.ensures.some.are ∙ rows-append (items s n.left) (n.item ∷ items s n.right)
    ∙ ap (λ (r : Row). rows_in (items s n.left) ++ r ∷ rows_in (items s n.right)) (sym c.row_of.ensures.row)
