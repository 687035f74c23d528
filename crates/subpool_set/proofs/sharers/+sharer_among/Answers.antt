use Rattle.std.proofs.Common.{sym, ◌∙◌}
use Rattle.row_table.specs.RowTable.{row}
use Rattle.subpool_set.specs.Kept.{sight_in}
use Rattle.subpool_set.specs.Walks.{HasNoSharer}
use Rattle.subpool_set.proofs.SharerLemmas.{where_none, over_none, over_some, no_rows, beyond_none, beyond_first, left_first, other_none, here_first, right_none, right_first}
use Rattle.subpool_set.proofs.sharers.+sharer_among.Goals as goal

pub returns-in_err-part-clause-none : goal.returns-in_err-part-clause-none
returns-in_err-part-clause-none t c =
    let a = c.args in
    where_none c.from_residual.result (HasNoSharer (sight_in (row a.elements.now a.table)) a.number a.owner a.behind)
    (no_rows a.elements.now a.table c.requires a.number a.owner a.behind c.in_err-part.ensures.none)

pub returns-then-not-comes_behind-clause-none : goal.returns-then-not-comes_behind-clause-none
returns-then-not-comes_behind-clause-none t c =
    let a = c.args in
    let p = c.in_ok-part in
    over_none c.sharer_among.result _ _ c.sharer_among.ensures.none
    (beyond_none a.elements.now a.table p.part.before p.part.behind p.part.row c.requires p.ensures.before p.ensures.behind p.ensures.parts a.number a.owner a.behind (sym c.comes_behind.ensures ∙ c.if-not-comes_behind.true))

pub returns-then-not-comes_behind-clause-first : goal.returns-then-not-comes_behind-clause-first
returns-then-not-comes_behind-clause-first t c =
    let a = c.args in
    let p = c.in_ok-part in
    over_some c.sharer_among.result _ _ c.sharer_among.ensures.first
    (beyond_first a.elements.now a.table p.part.before p.part.behind p.part.row c.requires p.ensures.before p.ensures.behind p.ensures.parts a.number a.owner a.behind (sym c.comes_behind.ensures ∙ c.if-not-comes_behind.true))

pub returns-in-Some-clause-first : goal.returns-in-Some-clause-first
returns-in-Some-clause-first t c =
    let a = c.args in
    let p = c.in_ok-part in
    left_first a.elements.now a.table p.part.before p.part.behind p.part.row c.requires p.ensures.before p.ensures.behind p.ensures.parts a.number a.owner a.behind c.in-Some.first c.in-Some.ensures.first

pub returns-then-part-number-clause-none : goal.returns-then-part-number-clause-none
returns-then-part-number-clause-none t c =
    let a = c.args in
    let p = c.in_ok-part in
    other_none a.elements.now a.table p.part.before p.part.behind p.part.row c.requires p.ensures.before p.ensures.behind p.ensures.parts a.number a.owner a.behind
    (sym c.comes_behind.ensures ∙ c.if-not-comes_behind.false) c.in_default.ensures.none c.if-part-number.true

pub returns-then-is_sharers_row-clause-first : goal.returns-then-is_sharers_row-clause-first
returns-then-is_sharers_row-clause-first t c =
    let a = c.args in
    let p = c.in_ok-part in
    here_first a.elements.now a.table p.part.before p.part.behind p.part.row c.requires p.ensures.before p.ensures.behind p.ensures.parts a.number a.owner a.behind
    (sym c.comes_behind.ensures ∙ c.if-not-comes_behind.false) c.in_default.ensures.none c.if-part-number.false (sym c.is_sharers_row.ensures ∙ c.if-is_sharers_row.true)

pub returns-clause-none : goal.returns-clause-none
returns-clause-none t c =
    let a = c.args in
    let p = c.in_ok-part in
    over_none c.sharer_among-3.result _ _ c.sharer_among-3.ensures.none
    (right_none a.elements.now a.table p.part.before p.part.behind p.part.row c.requires p.ensures.before p.ensures.behind p.ensures.parts a.number a.owner a.behind
    (sym c.comes_behind.ensures ∙ c.if-not-comes_behind.false) c.in_default.ensures.none c.if-part-number.false (sym c.is_sharers_row.ensures ∙ c.if-is_sharers_row.false))

pub returns-clause-first : goal.returns-clause-first
returns-clause-first t c =
    let a = c.args in
    let p = c.in_ok-part in
    over_some c.sharer_among-3.result _ _ c.sharer_among-3.ensures.first
    (right_first a.elements.now a.table p.part.before p.part.behind p.part.row c.requires p.ensures.before p.ensures.behind p.ensures.parts a.number a.owner a.behind
    (sym c.comes_behind.ensures ∙ c.if-not-comes_behind.false) c.in_default.ensures.none c.if-part-number.false (sym c.is_sharers_row.ensures ∙ c.if-is_sharers_row.false))
