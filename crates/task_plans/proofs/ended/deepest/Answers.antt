use Rattle.std.proofs.Common.{◌≡◌, max, arith, subst}
use Rattle.std.proofs.lemmas.Grind.{common_steps}
use Rattle.storage_swap.specs.Storage.{state_of}
use Rattle.task_plans.proofs.Levels.{AreWithin, one_within, level_empty}
use Rattle.task_plans.proofs.ended.deepest.Goals as goal

pub loop-task-preserved : goal.loop-task-preserved
loop-task-preserved c =
    let w = c.loop-task.invariant in
    let its = c.most_steps_below in
    let most : max c.loop-task.most its.result ≡ c.max-most.result = grind (arith, common_steps, c.max-most.ensures) in
    record {
      few = omega (arith, most, w.few, its.ensures.range);
      within = one_within (state_of c.args.storage.now).tasks.parents c.args.tree.now.top c.loop-task.most its.result c.max-most.result c.loop-task.task
          (omega (arith, most)) (omega (arith, most)) w.within its.ensures.rest;
    }

pub returns-clause-rest : goal.returns-clause-rest
returns-clause-rest c = λ steps more few.
    let parents = (state_of c.args.storage.now).tasks.parents in
    let top = c.args.tree.now.top in
    let all : c.loop-task.task ≡ 65 = omega arith in
    level_empty parents top c.loop-task.most steps (subst (AreWithin parents top c.loop-task.most) all c.loop-task.invariant.within) more few
