use Rattle.std.proofs.Common.{◌≡◌, ◌∙◌, Option, List, sym, subst, ap}
use Rattle.std.specs.Prelude.{IfSome, slice_get}
use Rattle.list_table.specs.ListTable.{entry_of}
use Rattle.cell_pool.specs.declared.settings.Extent.{Extent}
use Rattle.cell_pool.proofs.ShapeLemmas.{own_extents}
use Rattle.cell_pool.specs.Pools.{Pool}
use Rattle.cell_pool.proofs.pools.CellPools.extent_at.Goals as goal

pub extent_at-requires-clause-table : goal.extent_at-requires-clause-table
extent_at-requires-clause-table c = c.row-row.ensures.open.stock.extents

pub extent_at-requires-clause-numbered : goal.extent_at-requires-clause-numbered
extent_at-requires-clause-numbered c = c.row-row.ensures.sound.numbered

pub returns : goal.returns
returns c =
    let P : Option Pool → Type 0 = λ z. IfSome z (λ (p : Pool). c.extent_at.result ≡ slice_get p.extents c.args.number) in
    subst P (sym c.row-row.ensures.pool) (c.extent_at.ensures ∙ ap (λ (z : List Extent). slice_get z c.args.number) (sym (own_extents (entry_of c.args.elements.now c.row-row.result))))
