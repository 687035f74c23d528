use Rattle.std.proofs.Common.{◌≡◌, ◌-◌, ◌≤◌, ◌⊎◌, sym, ◌∙◌, ap, arith, inl, inr}
use Rattle.std.proofs.lemmas.Bool.{eq-eqb, ne_eqb}
use Rattle.vsm_model.specs.Ending.{climbs}
use Rattle.storage_swap.specs.Storage.{state_of}
use Rattle.task_plans.proofs.Climbs.{climb_up, climb_here, climb_stops, is_in_ended, none_in_ended}
use Rattle.task_plans.proofs.ended.is_ended.Goals as goal
use Rattle.task_plans.proofs.ended.is_ended.Goals.{then-task-eq0-via-then-task-eq0, then-task-eq0-via-else-task-eq0+then-task-ge-TASKS_END}

pub returns-then-task-eq0 : goal.returns-then-task-eq0
returns-then-task-eq0 c =
    let parents = (state_of c.args.storage.now).tasks.parents in
    let outside : (c.args.task ≡ 0) ⊎ (65 ≤ c.args.task) =
    elim c.then-task-eq0.branch [
      | then-task-eq0-via-then-task-eq0 w ↦ inl (omega (arith, w.if-task-eq0.true))
      | then-task-eq0-via-else-task-eq0+then-task-ge-TASKS_END w ↦ inr (omega (arith, w.if-task-ge-TASKS_END.true))
    ] in
    sym (none_in_ended parents c.args.tree.now.top c.args.task outside)

pub returns-then-above-tree : goal.returns-then-above-tree
returns-then-above-tree c =
    let parents = (state_of c.args.storage.now).tasks.parents in
    sym (is_in_ended parents c.args.tree.now.top c.args.task (omega (arith, c.if-task-eq0.false)) (omega (arith, c.if-task-ge-TASKS_END.false))
    ∙ sym c.loop.invariant
    ∙ climb_here parents c.args.tree.now.top (63 - c.loop.counter) c.loop.above (eq-eqb c.loop.above c.args.tree.now.top c.if-above-tree.true))

pub returns-in-None : goal.returns-in-None
returns-in-None c =
    let parents = (state_of c.args.storage.now).tasks.parents in
    sym (is_in_ended parents c.args.tree.now.top c.args.task (omega (arith, c.if-task-eq0.false)) (omega (arith, c.if-task-ge-TASKS_END.false))
    ∙ sym c.loop.invariant
    ∙ climb_stops parents c.args.tree.now.top (63 - c.loop.counter) c.loop.above (ne_eqb c.loop.above c.args.tree.now.top c.if-above-tree.false) (sym c.in-None.ensures))

pub loop-preserved : goal.loop-preserved
loop-preserved c =
    climb_up (state_of c.args.storage.now).tasks.parents c.args.tree.now.top 63 c.loop.counter c.loop.above c.in-Some.parent c.loop-test.true
    (ne_eqb c.loop.above c.args.tree.now.top c.if-above-tree.false) (sym c.in-Some.ensures)
    ∙ c.loop.invariant

pub returns : goal.returns
returns c =
    let parents = (state_of c.args.storage.now).tasks.parents in
    let last : 63 - c.loop.counter ≡ 0 = omega (arith, c.loop-test.false) in
    sym (is_in_ended parents c.args.tree.now.top c.args.task (omega (arith, c.if-task-eq0.false)) (omega (arith, c.if-task-ge-TASKS_END.false))
    ∙ sym c.loop.invariant
    ∙ ap (λ n. climbs parents n c.args.tree.now.top c.loop.above) last)
