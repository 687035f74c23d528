use Rattle.std.proofs.Common.{◌≡◌, ℕ, Option, ap, ◌∙◌}
use Rattle.std.specs.Prelude.{unwrap_or}
use Rattle.task_tree.specs.TaskTree.{parent}
use Rattle.task_plans.specs.Parents.{present}
use Rattle.task_plans.proofs.ParentLemmas.{small, filled, one_more}
use Rattle.task_plans.proofs.ended.read_parents.Goals as goal

pub loop-task-preserved : goal.loop-task-preserved
loop-task-preserved c =
    let p = c.args.storage.now in
    let f : ℕ → Option ℕ = λ t. parent p.elements p.tasks t in
    let stand = c.trees_stand.ensures p.elements p.tasks c.requires.stands.tasks in
    let here : f c.loop-task.task ≡ present c.unwrap_or.result = filled (f c.loop-task.task) c.unwrap_or.result (small f stand.1 stand.2 stand.3 c.loop-task.task) (c.unwrap_or.ensures ∙ ap (λ (o : Option ℕ). unwrap_or o 255) c.parent_of-parent.ensures) in
    let m = one_more f c.loop-task.of c.loop-task.task c.from.result c.unwrap_or.result c.from.ensures c.loop-task.invariant.length c.loop-task-test.true c.loop-task.invariant.done here in
    record { length = m.0; done = m.1 }
