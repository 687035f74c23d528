-- What is read of a task that exists, and of one that doesn't.
use Rattle.std.proofs.Common.{◌≡◌, ℕ, if◌then◌else◌, Option, Some, None, is_some, ap}
use Rattle.vsm_model.specs.State.{State, is_task}

pub there : {A : Type 0} (s : State) (task parent : ℕ) (x : A) → s.parents task ≡ Some parent → (if is_task s task then Some x else None) ≡ Some x
there s task parent x e = ap (λ (p : Option ℕ). if is_some p then Some x else None) e

pub absent : {A : Type 0} (s : State) (task : ℕ) (x : A) → s.parents task ≡ None → (if is_task s task then Some x else None) ≡ None
absent s task x e = ap (λ (p : Option ℕ). if is_some p then Some x else None) e
