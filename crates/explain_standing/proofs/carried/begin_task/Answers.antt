use Rattle.std.proofs.Common.{sym, subst}
use Rattle.std.proofs.lemmas.Result.{on_ok_weaker}
use Rattle.explain_standing.specs.Carried.{IsPutAt, IsTaskBegun}
use Rattle.explain_standing.specs.NumberMaps.{number_in}
use Rattle.explain_standing.proofs.NumberMaps.{put_at}
use Rattle.explain_standing.proofs.carried.begin_task.Goals as goal

pub returns-in-Attached : goal.returns-in-Attached
returns-in-Attached c =
    let old = number_in c.args.births.now in
    let new = number_in c.take.new.self in
    on_ok_weaker c.take.result
    (λ put. subst (λ r. IsTaskBegun r c.args.line old new) (sym c.in-Attached.is) (subst (λ n. IsPutAt n c.args.line old new) c.from.ensures (put_at c.from.result c.args.line old new put))) c.take.ensures
