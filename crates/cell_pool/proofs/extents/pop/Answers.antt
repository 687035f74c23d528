use Rattle.std.proofs.Common.{◌++◌, ◌∷◌, [], List, length, sym, ap, ◌∙◌, subst, refl, arith}
use Rattle.std.specs.Prelude.{Option, IsSome, map}
use Rattle.row_table.specs.declared.row.Row.{Row}
use Rattle.row_table.specs.Rows.{word}
use Rattle.row_table.specs.RowTable.{rows}
use Rattle.row_table.proofs.TableLemmas.{rows_ascend}
use Rattle.list_table.specs.Stocks.{rows_of}
use Rattle.cell_pool.specs.declared.settings.Extent.{Extent}
use Rattle.cell_pool.specs.Items.{extent_of}
use Rattle.cell_pool.specs.Notes.{AreNumbered}
use Rattle.cell_pool.proofs.NumberLemmas.{last_among, numbered_less, rows_less, extents_more, none_last}
use Rattle.cell_pool.proofs.extents.pop.Goals as goal

pub remove-requires-clause-there : goal.remove-requires-clause-there
remove-requires-clause-there c =
    let r = c.in-Some.row in
    let P : Option Row → Type 0 = λ o. IsSome o in
    subst P (sym ((rows_ascend c.args.elements.now c.args.extents.now c.requires.table).1 (word r.words 0) (word r.words 1)
    ∙ last_among (rows c.args.elements.now c.args.extents.now) r c.requires.numbered (sym c.last.ensures.last ∙ c.in-Some.is))) refl

pub returns-in-Some-clause-numbered : goal.returns-in-Some-clause-numbered
returns-in-Some-clause-numbered c =
    let r = c.in-Some.row in
    let P : List Row → Type 0 = λ z. AreNumbered 0 (rows_of z) in
    (numbered_less 0 (rows c.remove.new.elements c.remove.new.self) r (subst P (rows_less c.args.elements.now c.remove.new.elements c.args.extents.now c.remove.new.self c.requires.table c.remove.ensures.table c.requires.numbered r (sym c.last.ensures.last ∙ c.in-Some.is) c.remove.ensures.rows) c.requires.numbered)).0

pub returns-in-Some-clause-extents : goal.returns-in-Some-clause-extents
returns-in-Some-clause-extents c =
    let r = c.in-Some.row in
    ap (λ (z : List Row). map extent_of (rows_of z)) (rows_less c.args.elements.now c.remove.new.elements c.args.extents.now c.remove.new.self c.requires.table c.remove.ensures.table c.requires.numbered r (sym c.last.ensures.last ∙ c.in-Some.is) c.remove.ensures.rows)
    ∙ extents_more (rows c.remove.new.elements c.remove.new.self) r
    ∙ ap (λ (z : Extent). map extent_of (rows_of (rows c.remove.new.elements c.remove.new.self)) ++ z ∷ []) (sym c.extent_of.ensures)

pub returns-in-None-clause-extents : goal.returns-in-None-clause-extents
returns-in-None-clause-extents c = absurd (omega (arith, c.requires.some, ap length (none_last (rows c.args.elements.now c.args.extents.now) (sym c.last.ensures.last ∙ c.in-None.is))))

pub returns-in-None-clause-spares : goal.returns-in-None-clause-spares
returns-in-None-clause-spares c = absurd (omega (arith, c.requires.some, ap length (none_last (rows c.args.elements.now c.args.extents.now) (sym c.last.ensures.last ∙ c.in-None.is))))
