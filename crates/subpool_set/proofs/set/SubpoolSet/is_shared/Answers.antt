use Rattle.std.proofs.Common.{ap, ◌∙◌}
use Rattle.subpool_set.specs.Pools.{is_shared}
use Rattle.subpool_set.specs.SubpoolSet.{sight, IsSubpoolSet}
use Rattle.subpool_set.proofs.SharedLemmas.{shared_by_rows}
use Rattle.subpool_set.proofs.set.SubpoolSet.is_shared.Goals as goal

pub returns : goal.returns
unfolding IsSubpoolSet sight
returns c =
    let a = c.args in
    c.is_shared_in.ensures ∙ shared_by_rows a.elements.now a.self.now.rows c.requires c.from.result
    ∙ ap (is_shared (sight a.elements.now a.self.now)) c.from.ensures
