-- The pages that a plan's change assigns are exactly those that the plain machine newly assigns.
use Rattle.std.proofs.Common.{◌≡◌, ℕ, true, Option, Some, None, refl, arith, sym, ◌∙◌, true≢false}
use Rattle.std.proofs.Props.{props}
use mathlib.Core.Logic.{∥∥₁_elim}
use Rattle.vsm_model.specs.declared.limits.Settings.{Settings}
use Rattle.vsm_elements.specs.Store.{at}
use Rattle.run_set.specs.Runs.{inside}
use Rattle.cell_pool.specs.Pools.{Pool}
use Rattle.subpool_storage.proofs.LawLemmas.{pools_are_held, storage_owns}
use Rattle.storage_changes.specs.State.{StorageState}
use Rattle.storage_changes.specs.Changes.{overlay}
use Rattle.storage_changes.specs.Meaning.{model_of, IsSound}
use Rattle.storage_changes.specs.Fresh.{FreshIsNew}
use Rattle.storage_swap.specs.declared.storage.Parts.{Parts}
use Rattle.storage_swap.proofs.FrameLemmas.{nowhere}
use Rattle.storage_core.specs.declared.storage.Storage.{Storage}
use Rattle.storage_core.specs.declared.plans.Plan.{Plan}
use Rattle.storage_core.specs.declared.plans.Plan.TheVariants.{Storage as OfStorage, Store, Attach, End, Build, Delete}
use Rattle.storage_core.specs.Meaning.{state_in_place}
use Rattle.storage_core.specs.Planned.{Assigns, AssignsOnly, CanBeReserved, IsIdFor, change_for, fresh_pages}
use Rattle.storage_core.specs.Fresh.{AreNewlyAssigned}

-- no element has the id 0, so no cell pool has it
pub zero_is_free : (s : Storage) (plan : Plan) → IsIdFor (state_in_place s) plan 0
unfolding at
zero_is_free s (OfStorage plan) = tt
zero_is_free s (Store plan) = tt
zero_is_free s (Attach plan) = tt
zero_is_free s (End plan) = tt
zero_is_free s (Delete plan) = tt
zero_is_free s (Build plan) = (omega (arith), go ((state_in_place s).subpools.cells 0) refl) where
  go : (o : Option Pool) → (state_in_place s).subpools.cells 0 ≡ o → (state_in_place s).subpools.cells 0 ≡ None
  go None e = e
  go (Some pool) e =
      let p : Parts = s.parts in
      let held = pools_are_held p.elements p.subpools 0 pool s.held.stands.subpools e in
      absurd (true≢false (sym ((storage_owns p.elements p.subpools s.held.stands.subpools).1 0 held)))

-- the pages of a plan are unassigned
unassigned : (m : StorageState) (plan : Plan) → CanBeReserved m plan → (page : ℕ) → inside page (fresh_pages plan) ≡ true → m.unassigned page ≡ true
unassigned m (OfStorage plan) can page in-run = can.unassigned page in-run
unassigned m (Store plan) can page in-run = absurd (true≢false (sym in-run ∙ nowhere page))
unassigned m (Attach plan) can page in-run = absurd (true≢false (sym in-run ∙ nowhere page))
unassigned m (End plan) can page in-run = absurd (true≢false (sym in-run ∙ nowhere page))
unassigned m (Build plan) can page in-run = can.unassigned page in-run
unassigned m (Delete plan) can page in-run = absurd (true≢false (sym in-run ∙ nowhere page))

pub plan_assigns : FreshIsNew → (settings : Settings) (m : StorageState) (plan : Plan) (id : ℕ) → CanBeReserved m plan → Assigns m (change_for m id plan) (fresh_pages plan)
    → AssignsOnly m (change_for m id plan) (fresh_pages plan) → ∥ IsSound settings m ∥₁ → ∥ IsSound settings (overlay m (change_for m id plan)) ∥₁
    → AreNewlyAssigned (model_of m) (model_of (overlay m (change_for m id plan))) (fresh_pages plan)
plan_assigns fresh_is_new settings m plan id can assigned only before after =
    ∥∥₁_elim before (hlevel props) (λ k. ∥∥₁_elim after (hlevel props) (λ l.
    fresh_is_new settings m (overlay m (change_for m id plan)) (fresh_pages plan) k l (unassigned m plan can) assigned only))
