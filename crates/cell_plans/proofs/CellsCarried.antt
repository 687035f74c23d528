-- A change of records that leads to the outcome of a service on a cell is what its plan leads to.
use Rattle.std.proofs.Common.{◌≡◌, ℕ, ◌+◌, ◌≤◌, ◌^◌, Bool, true, Option, None, IfSome, List, sym, ap, ◌∙◌, subst}
use Rattle.run_set.specs.Runs.{Run, inside}
use Rattle.vsm_model.specs.declared.Subpool.{Subpool}
use Rattle.vsm_model.specs.declared.limits.Settings.{Settings}
use Rattle.vsm_model.specs.State.{State}
use Rattle.vsm_model.specs.Services.{Service}
use Rattle.vsm_model.specs.Standing.{Accepted}
use Rattle.vsm_model.specs.Step.{step}
use Rattle.vsm_model.proofs.Chosen.{Stepped}
use Rattle.subpool_storage.specs.Subpools.{is_there}
use Rattle.storage_changes.specs.declared.record.Record.{Record}
use Rattle.storage_changes.specs.State.{StorageState}
use Rattle.storage_changes.specs.Changes.{Change, change_from, change_of}
use Rattle.storage_changes.specs.Meaning.{model_of}
use Rattle.storage_changes.specs.Leads.{Leads}
use Rattle.storage_plans.specs.declared.plan.StoragePlan.{StoragePlan}
use Rattle.storage_plans.specs.Plans.{Assigns, CarriesOut, IsAccepted, change_in}
use Rattle.cell_plans.specs.CellPlans.{HasRecords}

module _ (settings : Settings) (names_full : Bool) (m : StorageState) (x : Service) (plan : StoragePlan) where
  module _ (records : List Record) (blanks : ℕ) (fresh : Run)
      (is_emptied : plan.emptied ≡ None) (is_records : plan.records.now.items ≡ records) (is_blanks : plan.blanks ≡ blanks) (is_fresh : plan.fresh ≡ fresh) where
    pub accepts : (t : State) → step settings names_full (model_of m) x ≡ Accepted t plan.reply → Leads settings m (change_of records blanks fresh) t
        → IsAccepted settings names_full m x (change_in m plan) plan.reply
    accepts t accepted leads =
        let change : change_in m plan ≡ change_of records blanks fresh =
        λ i. change_from m.subpools (is_emptied i) (is_records i) (is_blanks i) (is_fresh i) in
        let leads_to : Change → Type 0 = λ d. Leads settings m d t in
        let its : Leads settings m (change_in m plan) t = subst leads_to (sym change) leads in
        let outcome : State → Stepped = λ s. Accepted s plan.reply in
        record { accepted = accepted ∙ ap outcome (sym its.leads); fits = its.fits; sound = its.sound }

    pub has_records : blanks ≤ 2 ^ 13 → fresh.start + fresh.len ≤ 2 ^ 20 → ((page : ℕ) → inside page fresh ≡ true → m.unassigned page ≡ true) → HasRecords m plan
    has_records few range unassigned =
        let are_there : Option Subpool → Type 0 = λ o. IfSome o (λ p. is_there m.subpools p ≡ true) in
        let is_few : ℕ → Type 0 = λ n. n ≤ 2 ^ 13 in
        let in_range : Run → Type 0 = λ r. r.start + r.len ≤ 2 ^ 20 in
        let are_unassigned : Run → Type 0 = λ r. (page : ℕ) → inside page r ≡ true → m.unassigned page ≡ true in
        record {
          few = subst is_few (sym is_blanks) few;
          range = subst in_range (sym is_fresh) range;
          there = subst are_there (sym is_emptied) tt;
          unassigned = subst are_unassigned (sym is_fresh) unassigned;
        }

    pub assigns : Assigns m (change_of records blanks fresh) fresh → Assigns m (change_in m plan) plan.fresh
    assigns assigned =
        let change : change_in m plan ≡ change_of records blanks fresh =
        λ i. change_from m.subpools (is_emptied i) (is_records i) (is_blanks i) (is_fresh i) in
        subst (λ (d : Change). Assigns m d plan.fresh) (sym change)
        (subst (λ (r : Run). Assigns m (change_of records blanks fresh) r) (sym is_fresh) assigned)

  -- a plan of another service's form
  pub as_accepted : CarriesOut settings names_full m x plan → IsAccepted settings names_full m x (change_in m plan) plan.reply
  as_accepted h = record { accepted = h.accepted; fits = h.fits; sound = h.sound }
