-- Whether a task has ended, by the line that began the task that has its number now.
use Rattle.std.proofs.Common.{◌≡◌, ◌≤◌, ℕ, Bool, true, false, not, Option, refl, sym, ap, ◌∙◌, arith}
use Rattle.std.proofs.Props.{props}
use mathlib.Core.Logic.{∥∥₁_elim}
use Rattle.storage_core.specs.declared.storage.Storage.{Storage}
use Rattle.storage_core.specs.Meaning.{state_of}
use Rattle.std.specs.Prelude.{◌||◌}
use Rattle.vsm_model.specs.State.{State, is_task}
use Rattle.explain_standing.specs.Since.{has_ended, is_later}

-- Only of a task that exists it matters.
pub same_ended : (s : State) (a b : Option ℕ) (task line : ℕ) → (is_task s task ≡ true → a ≡ b) → has_ended s a task line ≡ has_ended s b task line
same_ended s a b task line same = go (is_task s task) refl where
  go : (z : Bool) → is_task s task ≡ z → (not z || is_later a line) ≡ (not z || is_later b line)
  go true is = ap (λ o. is_later o line) (same is)
  go false is = refl

module _ (s : Storage) where
  -- the number of a task is small
  pub task_low : (task : ℕ) → 256 ≤ task → false ≡ is_task (state_of s) task
  task_low task high = go (is_task (state_of s) task) refl where
    go : (b : Bool) → is_task (state_of s) task ≡ b → false ≡ is_task (state_of s) task
    go false is = sym is
    go true is =
        ∥∥₁_elim s.held.sound (hlevel props)
        (λ sound. absurd (let its = sound.well_formed.tasks.numbered task is in omega (arith, high, its.1)))
