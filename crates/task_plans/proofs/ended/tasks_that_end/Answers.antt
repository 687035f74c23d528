use Rattle.std.proofs.Common.{ℕ, List, ◌∷◌, [], ◌+◌, ◌<◌, length, length-append, refl, sym, ◌∙◌, ap, subst, arith}
use Rattle.std.specs.Prelude.{filter}
use Rattle.arrayvec.specs.ArrayVec.{ArrayVec}
use Rattle.vsm_model.specs.Search.{is_in}
use Rattle.subpool_set.proofs.OrderLemmas.{tasks_are}
use Rattle.storage_swap.specs.Storage.{state_of}
use Rattle.storage_changes.specs.Ending.{ended_below}
use Rattle.task_plans.specs.Sights.{tasks_below}
use Rattle.task_plans.proofs.EndingTasks.{AreGathered, one_ends, one_stays, all_gathered}
use Rattle.task_plans.proofs.ended.tasks_that_end.Goals as goal
use Rattle.task_plans.proofs.ended.tasks_that_end.Goals.{then-is_ended, else-is_ended}

pub loop-task-init : goal.loop-task-init
loop-task-init c =
    let m = state_of c.args.storage.now in
    let ends = is_in (ended_below m.tasks.parents c.args.tree.now.top) in
    let none = c.new-tasks.ensures in (
      (let P : List ℕ → Type 0 = λ xs. AreGathered ends xs (tasks_below m c.args.tree.now.top) 1 in subst P (sym none) (sym (ap (filter ends) (tasks_are 64 refl)))),
      omega (arith, ap length none),
    )

pub loop-task-preserved : goal.loop-task-preserved
loop-task-preserved c =
    let m = state_of c.args.storage.now in
    let ends = is_in (ended_below m.tasks.parents c.args.tree.now.top) in
    let w = c.loop-task in
    let all = tasks_below m c.args.tree.now.top in
    let P : ArrayVec ℕ → Type 0 = λ tasks. AreGathered ends tasks.items all (w.task + 1) × (length tasks.items < w.task + 1) in
    let Q : List ℕ → Type 0 = λ xs. AreGathered ends xs all (w.task + 1) × (length xs < w.task + 1) in
    elim c.if-is_ended.branch [
      | then-is_ended v ↦
          subst P (sym v.tasks-is) (subst Q (sym v.push.ensures.items) (
            one_ends ends w.tasks.items all w.task c.loop-task-test.true w.invariant.0 (sym c.is_ended.ensures ∙ v.if-is_ended.true),
            omega (arith, w.invariant.1, length-append w.tasks.items (w.task ∷ [])),
          ))
      | else-is_ended v ↦
          subst P (sym v.tasks-is) (
            one_stays ends w.tasks.items all w.task c.loop-task-test.true w.invariant.0 (sym c.is_ended.ensures ∙ v.if-is_ended.false),
            omega (arith, w.invariant.1),
          )
    ]

pub returns : goal.returns
returns c =
    let m = state_of c.args.storage.now in
    all_gathered (is_in (ended_below m.tasks.parents c.args.tree.now.top)) c.loop-task.tasks.items (tasks_below m c.args.tree.now.top) c.loop-task.task c.loop-task-test.false c.loop-task.invariant.0
