use Rattle.std.proofs.Common.{◌≡◌, ◌+◌, ◌-◌, Bool, if◌then◌else◌, is_some, zero-add, ap, ◌∙◌, arith}
use Rattle.storage_core.specs.Meaning.{state_of}
use Rattle.vsm_model.specs.Search.{passing}
use Rattle.vsm_model.specs.State.{is_task}
use Rattle.explain_reasons.specs.Tasks.{task_count}
use Rattle.explain_reasons.proofs.TaskLemmas.{at_most_one, bit_is, one_more}
use Rattle.explain_reasons.proofs.tasks.count_tasks.Goals as goal

pub loop-task-init : goal.loop-task-init
unfolding task_count
loop-task-init c = record { counted = zero-add (passing (is_task (state_of c.args.storage.now)) 1 64); few = omega arith }

pub loop-task-preserved : goal.loop-task-preserved
loop-task-preserved c =
    let f = is_task (state_of c.args.storage.now) in
    let t = c.loop-task.task in
    let bump : c.from-count.result ≡ (if f t then 1 else 0) =
    c.from-count.ensures ∙ bit_is c.is_some.result ∙ ap (λ (b : Bool). if b then 1 else 0) (c.is_some.ensures ∙ ap is_some c.parent.ensures) in
    let one = one_more f t (t + 1) (65 - t) (65 - (t + 1)) (omega arith) (omega (arith, c.loop-task-test.true)) in
    let small = at_most_one (f t) in
    record { counted = omega (arith, c.loop-task.invariant.counted, one, bump); few = omega (arith, c.loop-task.invariant.few, small, bump) }

pub returns : goal.returns
returns c =
    let f = is_task (state_of c.args.storage.now) in
    let t = c.loop-task.task in
    let over : 65 - t ≡ 0 = omega (arith, c.loop-task-test.false) in
    let none : passing f t (65 - t) ≡ 0 = ap (passing f t) over in
    omega (arith, c.loop-task.invariant.counted, none)
