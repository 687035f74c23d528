use Rattle.std.proofs.Common.{◌∙◌, sym}
use Rattle.list_table.specs.ListTable.{entry_of}
use Rattle.cell_pool.specs.Items.{pool_of}
use Rattle.cell_pool.proofs.CellPlaceLemmas.{are_spread}
use Rattle.cell_pool.proofs.PartLemmas.{met_pool}
use Rattle.cell_pool.proofs.ReachLemmas.{none_met}
use Rattle.cell_pool.proofs.reading.row_meets.Goals as goal

pub meets-requires-clause-spread : goal.meets-requires-clause-spread
meets-requires-clause-spread c = are_spread c.args.elements.now c.args.row.stock.places c.requires.stock.places (pool_of (entry_of c.args.elements.now c.args.row)) c.requires.sound.size c.requires.sound.separate c.requires.sound.placed

pub returns-then-may_meet : goal.returns-then-may_meet
returns-then-may_meet c = c.meets.ensures ∙ met_pool c.args.elements.now c.args.row c.requires.stock c.requires.sound c.args.start c.args.len

pub returns-else-may_meet : goal.returns-else-may_meet
returns-else-may_meet c =
    let p = pool_of (entry_of c.args.elements.now c.args.row) in
    c.if-may_meet.false ∙ sym (none_met c.args.row.words p.settings.size c.args.start c.args.len (sym c.may_meet.ensures ∙ c.if-may_meet.false) p.extents c.requires.sound.within)
