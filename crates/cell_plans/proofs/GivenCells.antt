-- A cell that is given back, and why it isn't.
use Rattle.std.proofs.Common.{◌≡◌, ℕ, Bool, true, false, not, Some, None, Ok, List, [], ◌∷◌, ◌++◌, sym, ap, ◌∙◌, arith}
use Rattle.std.proofs.Math.Logic.{∥∥₁_map}
use Rattle.vsm_model.specs.declared.causes.Cause.{Cause}
use Rattle.vsm_model.specs.declared.causes.Cause.TheVariants.{NoCellPool, NotInUse}
use Rattle.vsm_model.specs.declared.limits.Settings.{Settings}
use Rattle.vsm_model.specs.declared.replies.Reply.{Reply}
use Rattle.vsm_model.specs.declared.replies.Reply.TheVariants.{Returned}
use Rattle.vsm_model.specs.Causes.{Causes, first_cause}
use Rattle.vsm_model.specs.Cells.{free_causes, is_in_use, pool_of, sees_pool, with_pool}
use Rattle.vsm_model.specs.CellPools.{CellPool}
use Rattle.vsm_model.specs.Registers.{with_registers}
use Rattle.vsm_model.specs.Services.{free}
use Rattle.vsm_model.specs.Standing.{Accepted, Refused}
use Rattle.vsm_model.specs.State.{State}
use Rattle.vsm_model.specs.Step.{answered, step}
use Rattle.vsm_model.proofs.Chosen.{Stepped}
use Rattle.service_laws.specs.CellKept.{FreeLeavesWellFormed}
use Rattle.cell_pool.specs.Pools.{Pool, uses}
use Rattle.storage_changes.specs.NamedPools.{AreNamed}
use Rattle.storage_changes.specs.Meaning.{model_of, IsSound}
use Rattle.storage_changes.specs.State.{StorageState}
use Rattle.storage_changes.specs.StorageActions.{register_records, run_of}
use Rattle.storage_changes.proofs.Rows.{none_fresh}
use Rattle.storage_plans.specs.declared.plan.StoragePlan.{StoragePlan}
use Rattle.storage_plans.proofs.AskedLengths.{skip, stop}
use Rattle.storage_plans.proofs.Assigning.{none_assigned}
use Rattle.storage_plans.proofs.Carried.{no_registers, register_and}
use Rattle.storage_changes.specs.CellActions.{given_back_records, with_given_back}
use Rattle.storage_changes.specs.CellLaws.{GivingBackCellsLeads}
use Rattle.cell_plans.specs.CellPlans.{IsCellPlanned}
use Rattle.cell_plans.specs.Seen.{IsSeen}
use Rattle.cell_plans.proofs.CellsCarried.{accepts, assigns, has_records}
use Rattle.cell_plans.proofs.PoolCells.{uses_same}
use Rattle.cell_plans.proofs.SeenPools.{pool_is, under_its_id}

module _ (settings : Settings) (names_full : Bool) (m : StorageState) (name : List ℕ) (cell : ℕ) where
  abbrev s : State
  s = model_of m

  abbrev used_rows : CellPool → Causes
  used_rows pool = (not (is_in_use pool cell), NotInUse) ∷ []

  refused_by : (cause : Cause) → first_cause (free_causes s name cell) ≡ Some cause → step settings names_full s (free name cell) ≡ Refused cause
  refused_by cause first = ap (answered settings s (free name cell)) first

  module _ (id : ℕ) (p : Pool) (seen : IsSeen m name id p) where
    use_is : is_in_use (pool_of s name) cell ≡ uses p cell
    use_is = ap (λ (pool : CellPool). is_in_use pool cell) (pool_is m name id p seen) ∙ uses_same p cell

    past_sight : first_cause (free_causes s name cell) ≡ first_cause (used_rows (pool_of s name))
    past_sight = skip (not (sees_pool s name)) NoCellPool (used_rows (pool_of s name)) (ap not seen.seen)

    pub free_unused : uses p cell ≡ false → step settings names_full s (free name cell) ≡ Refused NotInUse
    free_unused unused = refused_by NotInUse (past_sight ∙ stop (not (is_in_use (pool_of s name) cell)) NotInUse [] (ap not (use_is ∙ unused)))

    abbrev after : State
    after = with_registers (with_given_back s p cell) ((15, 0) ∷ [])

    accepted : uses p cell ≡ true → step settings names_full s (free name cell) ≡ Accepted after (Returned 0)
    accepted used =
        let outcome : List ℕ → CellPool → Stepped = λ n pool. Accepted (with_registers (with_pool s n (record pool { free = cell ∷ pool.free })) ((15, 0) ∷ [])) (Returned 0) in
        ap (answered settings s (free name cell)) (past_sight ∙ skip (not (is_in_use (pool_of s name) cell)) NotInUse [] (ap not (use_is ∙ used)))
        ∙ (λ i. outcome (sym seen.named i) (pool_is m name id p seen i))

    module _ (plan : StoragePlan) (is_emptied : plan.emptied ≡ None) (is_records : plan.records.now.items ≡ given_back_records id cell ++ register_records m ((15, 0) ∷ []))
        (is_blanks : plan.blanks ≡ 0) (is_fresh : plan.fresh ≡ run_of 0 0) (is_reply : plan.reply ≡ Returned 0) where
      pub given_back : GivingBackCellsLeads → FreeLeavesWellFormed → AreNamed m.subpools.cells → ∥ IsSound settings m ∥₁ → uses p cell ≡ true
          → IsCellPlanned settings names_full m (free name cell) (Ok plan)
      given_back leads formed named sound used =
          let records = given_back_records p.id cell ++ register_records m ((15, 0) ∷ []) in
          let with_id = is_records ∙ ap (λ (n : ℕ). given_back_records n cell ++ register_records m ((15, 0) ∷ [])) (sym seen.id_is) in
          let outcome : Reply → Stepped = λ reply. Accepted after reply in (
            ∥∥₁_map sound (λ h. accepts settings names_full m (free name cell) plan records 0 (run_of 0 0) is_emptied with_id is_blanks is_fresh after
                (accepted used ∙ ap outcome (sym is_reply))
                (leads settings m p cell ((15, 0) ∷ []) h named (under_its_id m name id p seen) used (register_and 15 0 [] (omega arith) no_registers)
                (formed settings names_full s after name cell (Returned 0) h.well_formed (accepted used)))),
            has_records settings names_full m (free name cell) plan records 0 (run_of 0 0) is_emptied with_id is_blanks is_fresh (omega arith) (omega arith) (none_fresh m),
            record { none = is_emptied; few = omega (arith, is_blanks) },
            assigns settings names_full m (free name cell) plan records 0 (run_of 0 0) is_emptied with_id is_blanks is_fresh (none_assigned _),
          )
