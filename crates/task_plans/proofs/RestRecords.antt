-- The records of an end that follow the turn.
use Rattle.std.proofs.Common.{◌≡◌, ℕ, List, [], ◌∷◌, ◌++◌, sym, ap, ◌∙◌, subst}
use Rattle.std.specs.List.{flat_map}
use Rattle.vsm_model.specs.declared.replies.Reply.{Reply}
use Rattle.vsm_model.specs.declared.replies.Reply.TheVariants.{Returned}
use Rattle.storage_changes.specs.declared.record.Record.{Record}
use Rattle.storage_changes.specs.State.{StorageState}
use Rattle.storage_changes.specs.StorageActions.{register_records, set_records}
use Rattle.storage_changes.specs.Ending.{ended_below, ended_records, removed_records, unshared_records, with_turn}
use Rattle.storage_swap.specs.declared.storage.Parts.{Parts}
use Rattle.storage_swap.specs.Storage.{state_of}
use Rattle.storage_swap.specs.declared.builder.ChangeBuilder.{ChangeBuilder}
use Rattle.storage_swap.specs.Builder.{IsBuilding, Pushes}
use Rattle.task_plans.specs.declared.end.EndPlan.{EndPlan}
use Rattle.task_plans.specs.TaskPlans.{end_registers, rest_records}
use Rattle.task_plans.proofs.RecordCounts.{four_together, no_register}
use Rattle.task_plans.proofs.Steps.{Next, first_is, none_last}

-- the four kinds of them
module _ (top : ℕ) where
  abbrev pub unseen : StorageState → List Record
  unseen m = unshared_records m.subpools (ended_below m.tasks.parents top)

  abbrev pub gone : StorageState → List Record
  gone m = removed_records m.subpools (ended_below m.tasks.parents top)

  abbrev pub tasks : StorageState → List Record
  tasks m = flat_map (ended_records m) (ended_below m.tasks.parents top)

abbrev pub registers : EndPlan → StorageState → List Record
registers plan m = register_records (with_turn m plan.next) (end_registers plan.reply)

-- the tasks of the subtree no longer see subpools at first
pub to_unseen : {s : Parts} {a : ChangeBuilder} (plan : EndPlan) (top : ℕ) → top ≡ plan.top → IsBuilding s a
    → Next s a (rest_records (state_of s) plan) s a (unseen top (state_of s)) (gone top (state_of s) ++ (tasks top (state_of s) ++ registers plan (state_of s)))
to_unseen {s} plan top is building =
    let m = state_of s in
    let each : ℕ → List Record = λ n. unseen n m ++ gone n m ++ tasks n m ++ registers plan m in
    first_is building (unseen top m) (gone top m ++ (tasks top m ++ registers plan m)) (ap each (sym is) ∙ four_together (unseen top m) (gone top m) (tasks top m) (registers plan m))

module _ {s t : Parts} {a b : ChangeBuilder} {all : List Record} (plan : EndPlan) (m : StorageState) (n : Next s a all t b (registers plan m) []) where
  -- a return code is all of the registers, or there are none
  pub to_code : (code : ℕ) → plan.reply ≡ Returned code → Next s a all t b (set_records plan.next (m.tasks.words plan.next) ((15, code) ∷ [])) []
  to_code code is =
      let P : Reply → Type 0 = λ reply. Next s a all t b (register_records (with_turn m plan.next) (end_registers reply)) [] in
      subst P is n

  pub no_code : ((code : ℕ) → plan.reply ≡ Returned code → ⊥) → Pushes s a all t b
  no_code none = none_last n (ap (register_records (with_turn m plan.next)) (no_register plan.reply none))
