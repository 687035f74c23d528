-- A change of records that leads to the outcome of a service carries it out.
use Rattle.std.proofs.Common.{◌≡◌, ℕ, ◌+◌, ◌<◌, ◌≤◌, ◌^◌, Bool, true, ◌&&◌, if◌then◌else◌, Option, Some, None, IfSome, List, [], ◌∷◌, sym, ap, ◌∙◌, subst, arith}
use Rattle.std.proofs.lemmas.Bool.{and_from, cond-true}
use Rattle.std.proofs.lemmas.List.Elements.{All-cons, All-nil}
use Rattle.run_set.specs.Runs.{Run, inside}
use Rattle.vsm_model.specs.declared.Subpool.{Subpool}
use Rattle.vsm_model.specs.declared.causes.Cause.{Cause}
use Rattle.vsm_model.specs.declared.limits.Settings.{Settings}
use Rattle.vsm_model.specs.declared.replies.Reply.{Reply}
use Rattle.vsm_model.specs.declared.replies.Reply.TheVariants.{Returned}
use Rattle.vsm_model.specs.State.{State}
use Rattle.vsm_model.specs.Causes.{first_cause, answers_four}
use Rattle.vsm_model.specs.Registers.{with_register}
use Rattle.vsm_model.specs.Services.{Service, is_conditional}
use Rattle.vsm_model.specs.Standing.{Accepted, Refused}
use Rattle.vsm_model.specs.Step.{causes, step, replied, answered}
use Rattle.vsm_model.proofs.Chosen.{Stepped}
use Rattle.vsm_model.proofs.Registered.{register_leaves_well_formed}
use Rattle.subpool_storage.specs.Subpools.{is_there}
use Rattle.storage_changes.specs.declared.record.Record.{Record}
use Rattle.storage_changes.specs.State.{StorageState}
use Rattle.storage_changes.specs.Changes.{Change, change_from, change_of}
use Rattle.storage_changes.specs.Meaning.{model_of, IsSound}
use Rattle.storage_changes.specs.StorageActions.{run_of, register_records}
use Rattle.storage_changes.specs.Leads.{Leads, AreRegisters}
use Rattle.storage_changes.proofs.Rows.{none_fresh, setting_leads}
use Rattle.storage_plans.specs.declared.plan.StoragePlan.{StoragePlan}
use Rattle.storage_plans.specs.Plans.{Assigns, CarriesOut, change_in}
use Rattle.storage_plans.proofs.Assigning.{none_assigned}

pub no_registers : AreRegisters []
no_registers = let below : (ℕ × ℕ) → Type 0 = λ row. row.0 < 16 in All-nil below

-- another register
pub register_and : (register word : ℕ) (rows : List (ℕ × ℕ)) → register < 16 → AreRegisters rows → AreRegisters ((register, word) ∷ rows)
register_and register word rows is are = let below : (ℕ × ℕ) → Type 0 = λ row. row.0 < 16 in All-cons below (register, word) rows is are

module _ (settings : Settings) (names_full : Bool) (m : StorageState) (x : Service) where
  -- with a subpool that is emptied first, or with none,
  pub carries_out_from : (plan : StoragePlan) (emptied : Option Subpool) (records : List Record) (blanks : ℕ) (fresh : Run) (t : State) →
      plan.emptied ≡ emptied → plan.records.now.items ≡ records → plan.blanks ≡ blanks → plan.fresh ≡ fresh →
      step settings names_full (model_of m) x ≡ Accepted t plan.reply → Leads settings m (change_from m.subpools emptied records blanks fresh) t →
      IfSome emptied (λ p. is_there m.subpools p ≡ true) → blanks ≤ 5 → fresh.start + fresh.len ≤ 2 ^ 20 →
      ((page : ℕ) → inside page fresh ≡ true → m.unassigned page ≡ true) → Assigns m (change_from m.subpools emptied records blanks fresh) fresh → CarriesOut settings names_full m x plan
  carries_out_from plan emptied records blanks fresh t is_emptied is_records is_blanks is_fresh accepted leads there few range unassigned assigned =
      let change : change_in m plan ≡ change_from m.subpools emptied records blanks fresh =
      λ i. change_from m.subpools (is_emptied i) (is_records i) (is_blanks i) (is_fresh i) in
      let leads_to : Change → Type 0 = λ d. Leads settings m d t in
      let its : Leads settings m (change_in m plan) t = subst leads_to (sym change) leads in
      let are_there : Option Subpool → Type 0 = λ o. IfSome o (λ p. is_there m.subpools p ≡ true) in
      let is_few : ℕ → Type 0 = λ n. n ≤ 5 in
      let in_range : Run → Type 0 = λ r. r.start + r.len ≤ 2 ^ 20 in
      let are_unassigned : Run → Type 0 = λ r. (page : ℕ) → inside page r ≡ true → m.unassigned page ≡ true in
      let outcome : State → Stepped = λ s. Accepted s plan.reply in
      record {
        accepted = accepted ∙ ap outcome (sym its.leads);
        fits = its.fits;
        sound = its.sound;
        there = subst are_there (sym is_emptied) there;
        few = subst is_few (sym is_blanks) few;
        range = subst in_range (sym is_fresh) range;
        unassigned = subst are_unassigned (sym is_fresh) unassigned;
        assigned = subst (λ (d : Change). Assigns m d plan.fresh) (sym change) (subst (λ (r : Run). Assigns m (change_from m.subpools emptied records blanks fresh) r) (sym is_fresh) assigned);
      }

  -- and with none
  pub carries_out : (plan : StoragePlan) (records : List Record) (blanks : ℕ) (fresh : Run) (t : State) →
      plan.emptied ≡ None → plan.records.now.items ≡ records → plan.blanks ≡ blanks → plan.fresh ≡ fresh →
      step settings names_full (model_of m) x ≡ Accepted t plan.reply → Leads settings m (change_of records blanks fresh) t →
      blanks ≤ 5 → fresh.start + fresh.len ≤ 2 ^ 20 → ((page : ℕ) → inside page fresh ≡ true → m.unassigned page ≡ true) → Assigns m (change_of records blanks fresh) fresh →
      CarriesOut settings names_full m x plan
  carries_out plan records blanks fresh t is_emptied is_records is_blanks is_fresh accepted leads few range unassigned assigned =
      carries_out_from plan None records blanks fresh t is_emptied is_records is_blanks is_fresh accepted leads tt few range unassigned assigned

  -- the outcome of a service whose first cause this is
  by_cause : (cause : Cause) → first_cause (causes settings names_full (model_of m) x) ≡ Some cause →
      step settings names_full (model_of m) x ≡ (if is_conditional x && answers_four cause then replied x (model_of m, Returned 4) else Refused cause)
  by_cause cause first = ap (answered settings (model_of m) x) first

  pub four_carried_out : (cause : Cause) (plan : StoragePlan) → IsSound settings m → first_cause (causes settings names_full (model_of m) x) ≡ Some cause →
      is_conditional x ≡ true → answers_four cause ≡ true → plan.emptied ≡ None → plan.records.now.items ≡ register_records m ((15, 4) ∷ []) → plan.blanks ≡ 0 → plan.fresh ≡ run_of 0 0 →
      plan.reply ≡ Returned 4 → CarriesOut settings names_full m x plan
  four_carried_out cause plan sound first conditional four is_emptied is_records is_blanks is_fresh is_reply =
      let after : State = with_register (model_of m) 15 4 in
      let outcome : Reply → Stepped = λ r. Accepted after r in
      let accepted : step settings names_full (model_of m) x ≡ Accepted after plan.reply =
      by_cause cause first
      ∙ cond-true (is_conditional x && answers_four cause) (replied x (model_of m, Returned 4)) (Refused cause) (and_from (is_conditional x) (answers_four cause) conditional four)
      ∙ ap outcome (sym is_reply) in
      carries_out plan (register_records m ((15, 4) ∷ [])) 0 (run_of 0 0) after is_emptied is_records is_blanks is_fresh accepted
      (setting_leads settings m ((15, 4) ∷ []) sound (register_and 15 4 [] (omega arith) no_registers) (register_leaves_well_formed (model_of m) 15 4 settings (omega arith) (omega arith) sound.well_formed))
      (omega arith) (omega arith) (none_fresh m) (none_assigned _)
