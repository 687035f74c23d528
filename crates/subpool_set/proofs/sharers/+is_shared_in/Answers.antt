use Rattle.std.proofs.Common.{◌∙◌}
use Rattle.subpool_set.proofs.SharedLemmas.{shared_behind, shared_before}
use Rattle.subpool_set.proofs.sharers.+is_shared_in.Goals as goal

pub returns-then-row-number : goal.returns-then-row-number
returns-then-row-number t c =
    let a = c.args in
    let p = c.in-Some in
    c.is_shared_in.ensures ∙ shared_behind a.elements.now a.table p.part.before p.part.behind p.part.row c.requires p.ensures.parts a.number c.if-row-number.true

pub returns-then-row-number-2 : goal.returns-then-row-number-2
returns-then-row-number-2 t c =
    let a = c.args in
    let p = c.in-Some in
    c.is_shared_in-then-row-number-2.ensures ∙ shared_before a.elements.now a.table p.part.before p.part.behind p.part.row c.requires p.ensures.parts a.number c.if-row-number-2.true
