-- A change that was made of a plan, under the id of a new cell pool.
use Rattle.std.proofs.Common.{◌≡◌, ℕ, Result, Ok, Err, IfOk, subst}
use Rattle.storage_changes.specs.Changes.{Change as Meaning}
use Rattle.storage_changes.specs.State.{StorageState}
use Rattle.storage_swap.specs.declared.storage.Parts.{Parts}
use Rattle.storage_swap.specs.declared.change.Change.{Change}
use Rattle.storage_swap.specs.Reserve.{Reserves}
use Rattle.storage_core.specs.declared.plans.Plan.{Plan}
use Rattle.storage_core.specs.Planned.{IsIdFor, change_for}

-- the change of a plan was made, under an id that it can have
abbrev pub IsMadeOf : {E : Type 0} → Parts → StorageState → Plan → Parts → Result Change E → Type 0
IsMadeOf p m plan t r = IfOk r (λ c. (id : ℕ) × IsIdFor m plan id × Reserves p (change_for m id plan) c t)

-- that of a plan that can have any id
pub made_of : {E : Type 0} (p t : Parts) (m : StorageState) (plan : Plan) (d : Meaning) → IsIdFor m plan 0 → d ≡ change_for m 0 plan
    → (r : Result Change E) → IfOk r (λ c. Reserves p d c t) → IsMadeOf p m plan t r
made_of p t m plan d free same (Ok c) made =
    let P : Meaning → Type 0 = λ x. Reserves p x c t in
    (0, free, subst P same made)
made_of p t m plan d free same (Err e) made = made
