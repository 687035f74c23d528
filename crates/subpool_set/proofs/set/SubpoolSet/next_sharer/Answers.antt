use Rattle.std.proofs.Common.{◌≡◌, ◌∙◌, ◌∷◌, [], sym, refl}
use Rattle.row_table.specs.RowTable.{row}
use Rattle.subpool_set.specs.Kept.{sight_in}
use Rattle.subpool_set.specs.SubpoolSet.{sight, sharers_left, IsSubpoolSet}
use Rattle.subpool_set.specs.Walks.{sharers_behind}
use Rattle.subpool_set.proofs.ReaderLemmas.{none_left, first_left}
use Rattle.subpool_set.proofs.SharerLemmas.{where_none, first_range}
use Rattle.subpool_set.proofs.set.SubpoolSet.next_sharer.Goals as goal

pub returns-in_err-task-clause-none : goal.returns-in_err-task-clause-none
unfolding sight sharers_left
returns-in_err-task-clause-none c =
    let a = c.args in
    let f = sight_in (row a.elements.now a.self.now.rows) in
    where_none c.from_residual.result (sharers_behind f a.number a.owner a.place.behind ≡ [])
    ((λ i. sharers_behind f (sym c.from-number.ensures i) (sym c.from-owner.ensures i) a.place.behind)
    ∙ none_left f c.from-number.result c.from-owner.result a.place.behind c.in_err-task.ensures.none)

pub returns-clause-next : goal.returns-clause-next
unfolding sight sharers_left IsSubpoolSet
returns-clause-next c =
    let a = c.args in
    let f = sight_in (row a.elements.now a.self.now.rows) in
    let range = first_range a.elements.now a.self.now.rows c.requires c.from-number.result c.from-owner.result a.place.behind c.in_ok-task.task c.in_ok-task.ensures.first in
    (λ i. sharers_behind f (sym c.from-number.ensures i) (sym c.from-owner.ensures i) a.place.behind)
    ∙ first_left f c.from-number.result c.from-owner.result a.place.behind c.in_ok-task.task c.in_ok-task.ensures.first range.0 range.1 64 refl
    ∙ (λ i. c.in_ok-task.task ∷ sharers_behind f (c.from-number.ensures i) (c.from-owner.ensures i) c.in_ok-task.task)
