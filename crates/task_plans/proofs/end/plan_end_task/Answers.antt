use Rattle.std.proofs.Common.{◌≡◌, ℕ, Some, is_some, sym, ◌∙◌, ap, inl, inr, arith}
use Rattle.std.specs.Prelude.{unwrap_or}
use Rattle.storage_swap.specs.Storage.{state_of}
use Rattle.task_plans.proofs.EndPlans.{end_planned, has_one, is_first}
use Rattle.task_plans.proofs.end.plan_end_task.Goals as goal

pub returns-in-Ok : goal.returns-in-Ok
returns-in-Ok c = λ settings names_full valid stands.
    let p = c.args.storage.now in
    let m = state_of p in
    let here : c.current-current.result ≡ m.tasks.current = c.current-current.ensures in
    end_planned settings names_full m c.ends_are_in_order.ensures c.ending_leads.ensures
    (c.cell_pools_are_named.ensures p.elements p.subpools c.requires.stands.subpools)
    (λ t at. c.in-Ok.ensures.ok.1 t (at ∙ ap Some (sym here))) (λ is. c.in-Ok.ensures.ok.0 (here ∙ is))
    c.current-current.result c.unwrap_or-parent.result here
    (c.unwrap_or-parent.ensures ∙ ap (λ o. unwrap_or o 0) c.parent_of.ensures ∙ ap (λ (t : ℕ). unwrap_or (m.tasks.parents t) 0) here)
    valid stands.sound

pub returns-in-HasSubtasks : goal.returns-in-HasSubtasks
returns-in-HasSubtasks c = λ settings names_full valid stands.
    let p = c.args.storage.now in
    let m = state_of p in
    let here : c.current-current.result ≡ m.tasks.current = c.current-current.ensures in
    elim c.in-Err.ensures.err [
      | inl its ↦
          let (t, at) = its.1 in
          let range = (c.trees_stand.ensures p.elements p.tasks c.requires.stands.tasks).1 t (ap is_some at) in
          has_one settings names_full m t range.0 range.1 (at ∙ ap Some here)
      | inr its ↦ absurd (cc (its.0, c.in-HasSubtasks.is))
    ]

pub returns-in-NoTask : goal.returns-in-NoTask
returns-in-NoTask c = λ settings names_full valid stands.
    let m = state_of c.args.storage.now in
    let here : c.current-current.result ≡ m.tasks.current = c.current-current.ensures in
    elim c.in-Err.ensures.err [
      | inl its ↦ absurd (grind (arith, its.0, c.in-NoTask.is))
      | inr its ↦ is_first settings names_full m (λ t at. its.2 t (at ∙ ap Some (sym here))) (sym here ∙ its.1)
    ]
