use Rattle.std.proofs.Common.{◌&&◌, ◌==◌, Some, ap, ◌∙◌, nat_le, nat_lt, if◌then◌else◌, arith}
use Rattle.std.proofs.lemmas.Result.{on_ok_weaker}
use Rattle.explain_standing.proofs.NumberMaps.{page_set}
use Rattle.explain_standing.proofs.number_map.NumberMap.take_page.Goals as goal

pub returns : goal.returns
returns c =
    let a = c.args in
    let old = c.in_ok-lengthen.ensures in
    on_ok_weaker c.take_in.result (λ each k d below.
    page_set c.lengthen.new.self.pages.items a.page c.take_in.new.page c.index_mut.result.now (λ n. nat_le a.from n && nat_lt n a.to) a.number (omega (arith, old.room))
    c.index_mut.ensures.value d (each d below) k
    ∙ ap (λ o. if (k == a.page) && (nat_le a.from d && nat_lt d a.to) then Some a.number else o) (old.same k d)) c.take_in.ensures
