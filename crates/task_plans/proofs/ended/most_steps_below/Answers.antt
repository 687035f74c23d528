use Rattle.std.proofs.Common.{ℕ, ◌+◌, sym, subst}
use Rattle.std.proofs.lemmas.Bool.{ne_eqb}
use Rattle.storage_swap.specs.Storage.{state_of}
use Rattle.task_plans.proofs.Levels.{Walked, walk_begins, walk_meets, walk_passes, walk_ends}
use Rattle.task_plans.proofs.ended.most_steps_below.Goals as goal
use Rattle.task_plans.proofs.ended.most_steps_below.Goals.{then-above-tree, else-above-tree}

pub loop-done-init : goal.loop-done-init
loop-done-init c = walk_begins (state_of c.args.storage.now).tasks.parents c.args.tree.now.top c.args.task

pub returns-in-None-clause-rest : goal.returns-in-None-clause-rest
returns-in-None-clause-rest c = λ steps more few.
    walk_ends (state_of c.args.storage.now).tasks.parents c.args.tree.now.top c.args.task c.loop-done.done c.loop-done.above c.loop-done.most
    c.loop-done.invariant (sym c.in-None.ensures) steps more

pub loop-done-preserved : goal.loop-done-preserved
loop-done-preserved c =
    let parents = (state_of c.args.storage.now).tasks.parents in
    let top = c.args.tree.now.top in
    let task = c.args.task in
    let done = c.loop-done.done in
    let parent = c.in-Some.parent in
    let P : ℕ → Type 0 = λ most. Walked parents top task (done + 1) parent most in
    elim c.if-above-tree.branch [
      | then-above-tree w ↦
          subst P (sym w.most-is)
          (walk_meets parents top task done c.loop-done.above c.loop-done.most c.loop-done.invariant parent (sym c.in-Some.ensures))
      | else-above-tree w ↦
          subst P (sym w.most-is)
          (walk_passes parents top task done c.loop-done.above c.loop-done.most c.loop-done.invariant parent (sym c.in-Some.ensures)
          (ne_eqb parent top w.if-above-tree.false))
    ]
