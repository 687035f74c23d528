-- The subtree of a task has exactly the tasks below it.
use Rattle.std.proofs.Common.{◌≡◌, ℕ, zero, suc, true, ◌==◌, is_some, sym, ◌∙◌, ap, subst, inl, inr}
use Rattle.std.proofs.lemmas.Bool.{or_cases, or_right, eqb-true, eq-eqb}
use Rattle.vsm_model.specs.Search.{holds}
use Rattle.vsm_model.specs.State.{State, is_task}
use Rattle.vsm_model.specs.Ending.{climbs}
use Rattle.service_laws.specs.Trees.{IsStepsBelow, IsInSubtree, SubtreeIsWhole}
use Rattle.service_laws.proofs.Options.{held}
use Rattle.service_laws.proofs.Subtrees.{subtree_is_all_below}

steps_of : (s : State) (n top task : ℕ) → climbs s.parents n top task ≡ true → IsInSubtree s top task
steps_of s zero top task e = (zero, eqb-true task top e)
steps_of s (suc n) top task e =
    elim (or_cases (task == top) (holds (climbs s.parents n top) (s.parents task)) e) [
      | inl is ↦ (zero, eqb-true task top is)
      | inr up ↦
          let (parent, at, later) = held (climbs s.parents n top) (s.parents task) up in
          let (steps, below) = steps_of s n top parent later in
          (suc steps, (parent, at, below))
    ]

climbs_so : (s : State) (steps top task : ℕ) → IsStepsBelow s steps top task → climbs s.parents steps top task ≡ true
climbs_so s zero top task is = eq-eqb task top is
climbs_so s (suc steps) top task (parent, at, below) =
    or_right (task == top) _ (subst (λ o. holds (climbs s.parents steps top) o ≡ true) (sym at) (climbs_so s steps top parent below))

task_below : (s : State) (steps top task : ℕ) → is_task s top ≡ true → IsStepsBelow s steps top task → is_task s task ≡ true
task_below s zero top task there is = ap (is_task s) is ∙ there
task_below s (suc steps) top task there (parent, at, below) = ap is_some at

pub subtree_is_whole : SubtreeIsWhole
subtree_is_whole s w top task there = (
  λ e. steps_of s 64 top task e,
  λ below. subtree_is_all_below s w below.0 top task there (task_below s below.0 top task there below.1) (climbs_so s below.0 top task below.1),
)
