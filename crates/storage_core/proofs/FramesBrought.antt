-- A page that becomes assigned is one of those that the plan's change has frames for.
use Rattle.std.proofs.Common.{◌≡◌, ℕ, ◌*◌, ◌/◌, Bool, true, false, if◌then◌else◌, Option, Some, None, IsSome, refl, sym, ap, ◌∙◌, subst, arith}
use Rattle.std.proofs.Props.{props}
use mathlib.Core.Logic.{∥∥₁_elim}
use Rattle.run_set.specs.Runs.{Run, inside}
use Rattle.vsm_model.specs.declared.limits.Settings.{Settings}
use Rattle.vsm_model.specs.declared.replies.Reply.{Reply}
use Rattle.vsm_model.specs.Services.{Service}
use Rattle.cell_pool.specs.Pools.{Pool}
use Rattle.storage_changes.specs.State.{StorageState}
use Rattle.storage_changes.specs.Changes.{no_pages}
use Rattle.storage_changes.proofs.AssignedPages.{assigned-brought}
use Rattle.storage_swap.proofs.ReserveLemmas.{meant-frames}
use Rattle.cell_plans.specs.CellPlans.{deleting_change}
use Rattle.storage_core.specs.declared.plans.Plan.{Plan}
use Rattle.storage_core.specs.declared.plans.Plan.TheVariants.{Storage, Store, Attach, End, Build, Delete}
use Rattle.storage_core.specs.Frames.{AssignsItsFrames}
use Rattle.storage_core.specs.Planned.{Assigns, AssignsOnly, IsAccepted, change_for, fresh_pages}

some_inside : (run : Run) (a : ℕ) → IsSome {T = ℕ} (if inside (a / 4096) run then Some 0 else None) → inside (a / 4096) run ≡ true
some_inside run a some = go (inside (a / 4096) run) some where
  go : (b : Bool) → IsSome {T = ℕ} (if b then Some 0 else None) → b ≡ true
  go true s = refl
  go false s = cc

frames_for : (m : StorageState) (id : ℕ) (plan : Plan) (a : ℕ) → IsSome ((change_for m id plan).frames a) → inside (a / 4096) (fresh_pages plan) ≡ true
frames_for m id (Storage plan) a some =
    let P : Option ℕ → Type 0 = λ o. IsSome o in
    some_inside plan.fresh a (subst P (meant-frames m.subpools plan.records.now.items plan.blanks plan.fresh plan.emptied a) some)
frames_for m id (Store plan) a some = some_inside no_pages a some
frames_for m id (Attach plan) a some = some_inside no_pages a some
frames_for m id (End plan) a some = some_inside no_pages a some
frames_for m id (Build plan) a some = some_inside plan.fresh a some
frames_for m id (Delete plan) a some = go (m.subpools.cells plan.pool) some where
  go : (o : Option Pool) → IsSome ((deleting_change m o).frames a) → inside (a / 4096) no_pages ≡ true
  go None s = some_inside no_pages a s
  go (Some p) s = some_inside no_pages a s

pub only_by : (settings : Settings) (names_full : Bool) (m : StorageState) (x : Service) (id : ℕ) (plan : Plan) (reply : Reply) → ∥ IsAccepted settings names_full m x (change_for m id plan) reply ∥₁ → AssignsOnly m (change_for m id plan) (fresh_pages plan)
only_by settings names_full m x id plan reply planned page free none =
    let first : (4096 * page) / 4096 ≡ page = omega arith in
    ∥∥₁_elim planned (hlevel props)
    (λ k. sym (ap (λ (x : ℕ). inside x (fresh_pages plan)) first) ∙ frames_for m id plan (4096 * page) (assigned-brought m (change_for m id plan) page k.fits free none))

-- and each page that it has a frame for becomes assigned, if those of the plan do
pub assigns_frames : (m : StorageState) (id : ℕ) (plan : Plan) → Assigns m (change_for m id plan) (fresh_pages plan) → AssignsItsFrames m (change_for m id plan)
assigns_frames m id plan its a some = its (a / 4096) (frames_for m id plan a some)
