-- The records of a task that is attached.
use Rattle.std.proofs.Common.{◌≡◌, ℕ, true, List, [], ◌∷◌, ◌++◌, sym, ap, ◌∙◌}
use Rattle.std.specs.List.{flat_map}
use Rattle.storage_changes.specs.declared.record.Record.{Record}
use Rattle.storage_changes.specs.declared.record.Record.TheVariants.{Task, Register}
use Rattle.storage_changes.specs.State.{StorageState}
use Rattle.storage_swap.specs.declared.storage.Parts.{Parts}
use Rattle.storage_swap.specs.Storage.{state_of}
use Rattle.storage_swap.specs.declared.builder.ChangeBuilder.{ChangeBuilder}
use Rattle.storage_swap.specs.Builder.{IsBuilding}
use Rattle.storage_changes.specs.StorageActions.{register_record, register_records, set_records}
use Rattle.storage_changes.proofs.Rows.{rows_behind}
use Rattle.storage_changes.specs.Attaching.{attach_records, gift_records, share_records, zero_records}
use Rattle.task_plans.specs.declared.attach.AttachPlan.{AttachPlan}
use Rattle.task_plans.specs.TaskPlans.{attach_change, numbers}
use Rattle.task_plans.proofs.RecordCounts.{four_together}
use Rattle.task_plans.proofs.Steps.{Next, first_is}

-- the four kinds of them
module _ (plan : AttachPlan) where
  abbrev pub zero : StorageState → List Record
  zero m = zero_records m plan.task plan.attach.shares_zero

  abbrev pub gifts : List ℕ → StorageState → List Record
  gifts given m = flat_map (gift_records m plan.task) given

  abbrev pub shares : List ℕ → StorageState → List Record
  shares shared m = flat_map (share_records m plan.task) shared

  -- that of the task is first
  pub to_comes : {s : Parts} {a : ChangeBuilder} (given shared : List ℕ) (parent : ℕ) → parent ≡ (state_of s).tasks.current → IsBuilding s a
      → Next s a (attach_records (state_of s) plan.task plan.attach.shares_zero given shared) s a (Task (record { task = plan.task; parent = parent; present = true }) ∷ [])
      (zero (state_of s) ++ (gifts given (state_of s) ++ shares shared (state_of s)))
  to_comes {s} given shared parent is building =
      let its : ℕ → List Record = λ n. Task (record { task = plan.task; parent = n; present = true }) ∷ [] in
      let rest : List Record = zero (state_of s) ++ (gifts given (state_of s) ++ shares shared (state_of s)) in
      first_is building (its parent) rest
      (four_together (its (state_of s).tasks.current) (zero (state_of s)) (gifts given (state_of s)) (shares shared (state_of s)) ∙ ap (λ (n : ℕ). its n ++ rest) (sym is))

-- the record of the return code, if it has one, and that of register 1
module _ (m : StorageState) (task now : ℕ) (is : now ≡ m.tasks.current) where
  abbrev pub code : ℕ → List Record
  code current = set_records current (m.tasks.words current) ((15, 0) ∷ [])

  abbrev both : List Record
  both = register_records m ((15, 0) ∷ (1, task) ∷ [])

  both_are : (word : ℕ) (y : Record) → word ≡ task → y ≡ Register (record { task = now; register = 1; word = word }) → code now ++ y ∷ [] ≡ both
  both_are word y same number =
      ap (λ (x : Record). code now ++ x ∷ []) (number ∙ (λ i. Register (record { task = is i; register = 1; word = same i })))
      ∙ ap (λ (current : ℕ). code current ++ register_record m.tasks.current (1, task) ∷ []) is
      ∙ rows_behind m.tasks.current (m.tasks.words m.tasks.current) (15, 0) ((1, task) ∷ [])

  pub to_return : {s : Parts} {a : ChangeBuilder} → IsBuilding s a → (word : ℕ) (y : Record) → word ≡ task → y ≡ Register (record { task = now; register = 1; word = word })
      → Next s a both s a (code now) (y ∷ [])
  to_return building word y same number = first_is building (code now) (y ∷ []) (sym (both_are word y same number))

-- The numbers are what the operands name.
abbrev pub its_registers : AttachPlan → StorageState → List Record
its_registers plan m = register_records m ((15, 0) ∷ (1, plan.task) ∷ [])

module _ (plan : AttachPlan) {s : Parts} {a : ChangeBuilder} (building : IsBuilding s a) where
  abbrev of-task : List ℕ → List ℕ → List Record
  of-task given shared = attach_records (state_of s) plan.task plan.attach.shares_zero given shared

  pub to_task : {given shared : List ℕ} → given ≡ numbers (state_of s) plan.attach.given → shared ≡ numbers (state_of s) plan.attach.shared
      → Next s a (attach_change (state_of s) plan).records s a (of-task given shared) (its_registers plan (state_of s))
  to_task {given} {shared} is-given is-shared =
      first_is building (of-task given shared) (its_registers plan (state_of s)) (λ i. of-task (sym is-given i) (sym is-shared i) ++ its_registers plan (state_of s))
