use Rattle.std.proofs.Common.{◌+◌, ◌∷◌, sym, ap, ◌∙◌, length, arith, length-append}
use Rattle.std.proofs.lemmas.Bool.{leb-true, leb-false}
use Rattle.row_table.specs.Rows.{word}
use Rattle.row_table.specs.RowTable.{rows}
use Rattle.cell_pool.proofs.MeetLemmas.{before_spread, behind_spread, met_here, met_before, met_behind}
use Rattle.cell_pool.proofs.places.+meets.Goals as goal

pub meets-requires : goal.meets-requires
meets-requires t c =
    let r = c.in-Some.part in
    (omega (arith, c.decreases, ap length c.in-Some.ensures.parts, length-append (rows c.args.elements.now r.before) (r.row ∷ rows c.args.elements.now r.behind)), (c.in-Some.ensures.before, before_spread c.args.start c.args.len (rows c.args.elements.now c.args.places) (rows c.args.elements.now r.before) r.row (rows c.args.elements.now r.behind) c.in-Some.ensures.parts c.requires.spread))

pub returns-then-ends_by : goal.returns-then-ends_by
returns-then-ends_by t c =
    let r = c.in-Some.part in
    c.meets.ensures
    ∙ sym (met_before c.args.start c.args.len (rows c.args.elements.now c.args.places) (rows c.args.elements.now r.before) r.row (rows c.args.elements.now r.behind) c.in-Some.ensures.parts c.requires.spread
    (leb-true (c.args.start + c.args.len) (word r.row.words 2) (sym c.ends_by.ensures ∙ c.if-ends_by.true)))

pub returns-then-overlaps_place : goal.returns-then-overlaps_place
returns-then-overlaps_place t c =
    let r = c.in-Some.part in
    sym (met_here c.args.start c.args.len (rows c.args.elements.now c.args.places) (rows c.args.elements.now r.before) r.row (rows c.args.elements.now r.behind) c.in-Some.ensures.parts c.requires.spread
    (sym c.overlaps_place.ensures ∙ c.if-overlaps_place.true))

pub meets-requires-2 : goal.meets-requires-2
meets-requires-2 t c =
    let r = c.in-Some.part in
    (omega (arith, c.decreases, ap length c.in-Some.ensures.parts, length-append (rows c.args.elements.now r.before) (r.row ∷ rows c.args.elements.now r.behind)), (c.in-Some.ensures.behind, behind_spread c.args.start c.args.len (rows c.args.elements.now c.args.places) (rows c.args.elements.now r.before) r.row (rows c.args.elements.now r.behind) c.in-Some.ensures.parts c.requires.spread))

pub returns : goal.returns
returns t c =
    let r = c.in-Some.part in
    c.meets-2.ensures
    ∙ sym (met_behind c.args.start c.args.len (rows c.args.elements.now c.args.places) (rows c.args.elements.now r.before) r.row (rows c.args.elements.now r.behind) c.in-Some.ensures.parts c.requires.spread
    (sym c.overlaps_place.ensures ∙ c.if-overlaps_place.false) (leb-false (c.args.start + c.args.len) (word r.row.words 2) (sym c.ends_by.ensures ∙ c.if-ends_by.false)))
