use Rattle.std.proofs.Common.{ℕ, ◌≤◌, List, sym, subst}
use Rattle.std.specs.List.{All}
use Rattle.storage_changes.specs.State.{StorageState}
use Rattle.storage_swap.specs.Storage.{state_of}
use Rattle.storage_swap.proofs.BuilderLemmas.{builds-follow, if-refused}
use Rattle.task_plans.specs.TaskPlans.{numbers}
use Rattle.task_plans.proofs.AttachRecords.{its_registers, to_task}
use Rattle.task_plans.proofs.EndRecords.{never}
use Rattle.task_plans.proofs.NumberLists.{first_private, second_private}
use Rattle.task_plans.proofs.Steps.{last_step, next_room, next_refused, all_last}
use Rattle.task_plans.proofs.attach.AttachPlan.push_records.Goals as goal

pub push_task-requires-clause-given : goal.push_task-requires-clause-given
push_task-requires-clause-given c =
    let m : StorageState = state_of c.args.storage.now in
    let are : List ℕ → Type 0 = λ xs. All (λ n. n ≤ 127) xs in
    subst are (sym c.numbers_or_none-given.ensures)
    (first_private (numbers m c.args.self.attach.given) (numbers m c.args.self.attach.shared) c.requires.can.can.good)

pub push_task-requires-clause-shared : goal.push_task-requires-clause-shared
push_task-requires-clause-shared c =
    let m : StorageState = state_of c.args.storage.now in
    let are : List ℕ → Type 0 = λ xs. All (λ n. n ≤ 127) xs in
    subst are (sym c.numbers_or_none-shared.ensures)
    (second_private (numbers m c.args.self.attach.given) (numbers m c.args.self.attach.shared) c.requires.can.can.good)

pub returns-in_err-push_task-clause-needless : goal.returns-in_err-push_task-clause-needless
returns-in_err-push_task-clause-needless c = λ h.
    never (c.in_err-push_task.ensures.needless (next_room (to_task c.args.self c.requires.building c.numbers_or_none-given.ensures c.numbers_or_none-shared.ensures) h))

pub returns-in_err-push_task-clause-made : goal.returns-in_err-push_task-clause-made
returns-in_err-push_task-clause-made c =
    if-refused _ c.from_residual.result
    (next_refused (to_task c.args.self c.requires.building c.numbers_or_none-given.ensures c.numbers_or_none-shared.ensures) c.push_task.new.storage c.in_err-push_task.ensures.made)

pub returns-in_err-push_registers-clause-builds : goal.returns-in_err-push_registers-clause-builds
returns-in_err-push_registers-clause-builds c = builds-follow _ _ _ _ _ _ c.push_task.ensures.builds c.push_registers.ensures.builds

pub returns-in_err-push_registers-clause-needless : goal.returns-in_err-push_registers-clause-needless
returns-in_err-push_registers-clause-needless c = λ h.
    let first = to_task c.args.self c.requires.building c.numbers_or_none-given.ensures c.numbers_or_none-shared.ensures in
    let last = last_step (its_registers c.args.self) first c.push_task.ensures.builds c.in_ok-push_task.ensures.ok in
    never (c.in_err-push_registers.ensures.needless (next_room last h))

pub returns-in_err-push_registers-clause-made : goal.returns-in_err-push_registers-clause-made
returns-in_err-push_registers-clause-made c =
    let first = to_task c.args.self c.requires.building c.numbers_or_none-given.ensures c.numbers_or_none-shared.ensures in
    let last = last_step (its_registers c.args.self) first c.push_task.ensures.builds c.in_ok-push_task.ensures.ok in
    if-refused _ c.from_residual-in_err-push_registers.result (next_refused last c.push_registers.new.storage c.in_err-push_registers.ensures.made)

pub returns-clause-builds : goal.returns-clause-builds
returns-clause-builds c = builds-follow _ _ _ _ _ _ c.push_task.ensures.builds c.push_registers.ensures.builds

pub returns-clause-ok : goal.returns-clause-ok
returns-clause-ok c =
    let first = to_task c.args.self c.requires.building c.numbers_or_none-given.ensures c.numbers_or_none-shared.ensures in
    let last = last_step (its_registers c.args.self) first c.push_task.ensures.builds c.in_ok-push_task.ensures.ok in
    all_last last c.push_registers.ensures.builds c.in_ok-push_registers.ensures.ok
