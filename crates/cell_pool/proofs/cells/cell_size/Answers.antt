use Rattle.std.proofs.Common.{[], List, ℕ, sym, ap, ◌∙◌}
use Rattle.std.proofs.lemmas.Option.{get_or_from_slice_get}
use Rattle.list_table.specs.Entries.{word}
use Rattle.list_table.specs.ListTable.{entry_of}
use Rattle.cell_pool.proofs.EntryLemmas.{pool_size}
use Rattle.cell_pool.proofs.cells.cell_size.Goals as goal

pub returns : goal.returns
returns c =
    let x = entry_of c.args.elements.now c.args.row in
    sym (pool_size x ∙ ap (λ (z : List ℕ). word z 5) (get_or_from_slice_get x.items 4 c.item-form.result [] c.item-form.ensures))
