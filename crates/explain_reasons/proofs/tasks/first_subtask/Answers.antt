use Rattle.std.proofs.Common.{◌≡◌, ℕ, true, sym, ap, ◌∙◌, arith}
use Rattle.storage_core.specs.Meaning.{state_of}
use Rattle.vsm_model.specs.Ending.{is_child}
use Rattle.explain_reasons.specs.Tasks.{first_subtask}
use Rattle.explain_reasons.proofs.TaskLemmas.{least_found, least_none}
use Rattle.explain_reasons.proofs.tasks.first_subtask.Goals as goal

pub returns-then-is_child : goal.returns-then-is_child
unfolding first_subtask
returns-then-is_child c =
    let s = state_of c.args.storage.now in
    let t = c.loop-task.task in
    let passes : is_child s s.current t ≡ true =
    sym (c.is_child.ensures ∙ ap (λ (p : ℕ). is_child s p t) c.current-current.ensures) ∙ c.if-is_child.true in
    c.from.ensures ∙ least_found (is_child s s.current) t passes (omega arith) (omega (arith, c.loop-task-test.true)) c.loop-task.invariant

pub returns : goal.returns
unfolding first_subtask
returns c =
    let s = state_of c.args.storage.now in
    least_none (is_child s s.current) c.loop-task.task (omega (arith, c.loop-task-test.false)) c.loop-task.invariant
