use Rattle.std.proofs.Common.{List, ◌++◌, length, ap, arith}
use Rattle.storage_changes.specs.Ending.{SightRow}
use Rattle.task_plans.specs.Sights.{rows_behind}
use Rattle.task_plans.proofs.SightLemmas.{rows_done}
use Rattle.task_plans.proofs.sights.behind_number.Goals as goal

pub returns : goal.returns
returns c = λ m is.
    let top = c.args.ending.now.tree.top in
    ap (λ (rows : List SightRow). rows ++ rows_behind m top c.args.number) (rows_done m top c.args.number c.len.result (omega (arith, c.len.ensures.value, ap length is.tasks)))
