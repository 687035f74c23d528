-- The release of a whole subpool, and its plan on the plain machine.
use Rattle.std.proofs.Common.{◌≡◌, ℕ, Bool, true, Some, None, [], ◌∷◌, sym, ap, ◌∙◌, arith}
use Rattle.std.specs.Prelude.{unwrap_or}
use Rattle.std.proofs.Math.Logic.{∥∥₁_map}
use Rattle.vsm_model.specs.declared.Subpool.{Subpool}
use Rattle.vsm_model.specs.declared.limits.Settings.{Settings}
use Rattle.vsm_model.specs.declared.replies.Reply.{Reply}
use Rattle.vsm_model.specs.declared.replies.Reply.TheVariants.{Returned}
use Rattle.vsm_model.specs.Causes.{first_cause}
use Rattle.vsm_model.specs.Regions.{settings_valid}
use Rattle.vsm_model.specs.Registers.{with_registers}
use Rattle.vsm_model.specs.Releasing.{whole_causes, without_storage}
use Rattle.vsm_model.specs.Services.{whole}
use Rattle.vsm_model.specs.Standing.{Accepted}
use Rattle.vsm_model.specs.State.{State}
use Rattle.vsm_model.specs.Step.{step, answered}
use Rattle.vsm_model.specs.Subpools.{same_subpool, seen_or_own}
use Rattle.vsm_model.proofs.Chosen.{Stepped}
use Rattle.service_laws.proofs.Allowed.{whole_allowed}
use Rattle.service_laws.proofs.Cases.{some_from}
use Rattle.service_laws.proofs.Kept.{whole_release_leaves_well_formed}
use Rattle.storage_changes.specs.TableLaws.{RowsOfTheOthersStay}
use Rattle.storage_changes.specs.NamedPools.{AreNamed}
use Rattle.subpool_storage.specs.Subpools.{is_there}
use Rattle.storage_changes.specs.State.{StorageState}
use Rattle.storage_changes.specs.Meaning.{model_of, IsSound}
use Rattle.storage_changes.specs.StorageActions.{register_records, run_of}
use Rattle.storage_changes.proofs.Emptying.{emptying_leads}
use Rattle.storage_changes.proofs.Rows.{none_fresh}
use Rattle.storage_plans.specs.declared.plan.StoragePlan.{StoragePlan}
use Rattle.storage_plans.specs.Plans.{CarriesOut}
use Rattle.storage_plans.proofs.Assigning.{none_assigned}
use Rattle.storage_plans.proofs.Carried.{carries_out_from, no_registers, register_and}

module _ (settings : Settings) (names_full : Bool) (m : StorageState) (number : ℕ) (stay : RowsOfTheOthersStay) (named : AreNamed m.subpools.cells)
    (none : first_cause (whole_causes (model_of m) number) ≡ None) where
  abbrev s : State
  s = model_of m

  abbrev own : Subpool
  own = seen_or_own s number

  -- the state after the release
  abbrev after : State
  after = with_registers (without_storage s (same_subpool own)) ((15, 0) ∷ [])

  accepted : step settings names_full s (whole number) ≡ Accepted after (Returned 0)
  accepted = ap (answered settings s (whole number)) none

  -- a subpool that is seen exists
  seen_is_there : IsSound settings m → is_there m.subpools own ≡ true
  seen_is_there sound =
      let (owner, at) = some_from (s.sight s.current number) (whole_allowed s number none).seen in
      ap (λ owner. is_there m.subpools (record { number = number; owner = owner })) (ap (λ seen. unwrap_or seen s.current) at)
      ∙ sound.well_formed.sight.seen_is_there s.current number owner at

  carried : settings_valid settings ≡ true → IsSound settings m → (plan : StoragePlan) → plan.emptied ≡ Some own → plan.records.now.items ≡ register_records m ((15, 0) ∷ []) →
      plan.blanks ≡ 1 → plan.fresh ≡ run_of 0 0 → plan.reply ≡ Returned 0 → CarriesOut settings names_full m (whole number) plan
  carried valid sound plan emptied records blanks fresh reply =
      let outcome : Reply → Stepped = λ r. Accepted after r in
      carries_out_from settings names_full m (whole number) plan (Some own) (register_records m ((15, 0) ∷ [])) 1 (run_of 0 0) after emptied records blanks fresh
      (accepted ∙ ap outcome (sym reply))
      (emptying_leads stay settings m own ((15, 0) ∷ []) valid sound named (seen_is_there sound) (register_and 15 0 [] (omega arith) no_registers)
      (whole_release_leaves_well_formed settings names_full s after number (Returned 0) sound.well_formed accepted))
      (seen_is_there sound) (omega arith) (omega arith) (none_fresh m) (none_assigned _)

  pub emptying_carried_out : settings_valid settings ≡ true → ∥ IsSound settings m ∥₁ → (p : Subpool) → p ≡ seen_or_own (model_of m) number → (plan : StoragePlan) → plan.emptied ≡ Some p →
      plan.records.now.items ≡ register_records m ((15, 0) ∷ []) → plan.blanks ≡ 1 → plan.fresh ≡ run_of 0 0 → plan.reply ≡ Returned 0 → ∥ CarriesOut settings names_full m (whole number) plan ∥₁
  emptying_carried_out valid sound p is plan emptied records blanks fresh reply =
      ∥∥₁_map sound (λ h. carried valid h plan (emptied ∙ ap Some is) records blanks fresh reply)
