-- How many elements the change of a new task has, and that of tasks that end.
use Rattle.std.proofs.Common.{ℕ, ◌+◌, ◌*◌, ◌≤◌, Bool, true, false, List, [], ◌∷◌, ◌++◌, length, Option, Some, None, Result, Ok, Err, IfOk, arith}
use Rattle.std.specs.List.{flat_map}
use Rattle.std.proofs.lemmas.List.{length-append}
use Rattle.vsm_model.specs.declared.replies.Reply.{Reply}
use Rattle.vsm_model.specs.declared.replies.Reply.TheVariants.{Obtained, Returned, Cell, Attached, Turn, Stored}
use Rattle.storage_changes.specs.declared.record.Record.{Record}
use Rattle.storage_changes.specs.Changes.{Change as Meaning}
use Rattle.storage_changes.specs.State.{StorageState}
use Rattle.storage_changes.specs.StorageActions.{register_records}
use Rattle.storage_swap.specs.declared.storage.Parts.{Parts}
use Rattle.storage_swap.specs.declared.change.Change.{Change}
use Rattle.storage_swap.specs.Reserve.{Reserves}
use Rattle.storage_changes.specs.Attaching.{given_records, gift_records, sharing_records, share_records, zero_records, attach_records, attach_blanks}
use Rattle.storage_changes.specs.Ending.{ended_below, end_records, with_turn}
use Rattle.storage_changes.proofs.EndCounts.{ends_are_short}
use Rattle.storage_changes.proofs.Rows.{few_records}
use Rattle.task_plans.specs.declared.attach.AttachPlan.{AttachPlan}
use Rattle.task_plans.specs.declared.end.EndPlan.{EndPlan}
use Rattle.task_plans.specs.TaskPlans.{numbers, attach_change, end_change, end_registers, parks_all}
use Rattle.storage_core.specs.declared.plans.Plan.TheVariants.{Attach, End}
use Rattle.storage_core.specs.Planned.{elements_needed}
use Rattle.storage_core.proofs.Counted.{reserved_count}

few-answered : {E : Type 0} (p t : Parts) (d : Meaning) (most : ℕ) (r : Result Change E) → IfOk r (λ c. Reserves p d c t) → length d.records + d.blanks ≤ most →
    IfOk r (λ c. c.records.count + c.blanks ≤ most)
few-answered p t d most (Ok c) made few = omega (arith, reserved_count p t d c made, few)
few-answered p t d most (Err e) made few = made

-- a list of lists, none longer than two
flat-short : (f : ℕ → List Record) → ((n : ℕ) → length (f n) ≤ 2) → (ns : List ℕ) → length (flat_map f ns) ≤ 2 * length ns
flat-short f short [] = omega arith
flat-short f short (n ∷ ns) = omega (arith, length-append (f n) (flat_map f ns), short n, flat-short f short ns)

given-short : (task number : ℕ) (seen : Option ℕ) → length (given_records task number seen) ≤ 2
given-short task number (Some owner) = omega arith
given-short task number None = omega arith

sharing-short : (current task number : ℕ) (seen : Option ℕ) → length (sharing_records current task number seen) ≤ 2
sharing-short current task number (Some owner) = omega arith
sharing-short current task number None = omega arith

zero-short : (m : StorageState) (task : ℕ) (shares : Bool) → length (zero_records m task shares) ≤ 2
zero-short m task true = sharing-short m.tasks.current task 0 (m.subpools.sight m.tasks.current 0)
zero-short m task false = omega arith

pub attach-short : (m : StorageState) (task : ℕ) (shares_zero : Bool) (gifts shares : List ℕ) (rows : List (ℕ × ℕ)) → length (register_records m rows) ≤ 2 →
    length (attach_records m task shares_zero gifts shares ++ register_records m rows) + attach_blanks gifts shares ≤ 32 + 4 * (length gifts + length shares)
attach-short m task shares_zero gifts shares rows two =
    let begins = zero_records m task shares_zero in
    let given = flat_map (gift_records m task) gifts in
    let shared = flat_map (share_records m task) shares in
    omega (
      arith,
      two,
      length-append (attach_records m task shares_zero gifts shares) (register_records m rows),
      length-append begins given,
      length-append (begins ++ given) shared,
      zero-short m task shares_zero,
      flat-short (gift_records m task) (λ n. given-short task n (m.subpools.sight m.tasks.current n)) gifts,
      flat-short (share_records m task) (λ n. sharing-short m.tasks.current task n (m.subpools.sight m.tasks.current n)) shares,
    )

pub attach-fits : (m : StorageState) (plan : AttachPlan) → length (attach_change m plan).records + (attach_change m plan).blanks ≤ elements_needed m (Attach plan)
attach-fits m plan =
    attach-short m plan.task plan.attach.shares_zero (numbers m plan.attach.given) (numbers m plan.attach.shared) ((15, 0) ∷ (1, plan.task) ∷ [])
    (few_records m.tasks.current (m.tasks.words m.tasks.current) (15, 0) ((1, plan.task) ∷ []))

pub attach_few : {E : Type 0} (p t : Parts) (m : StorageState) (plan : AttachPlan) (r : Result Change E) → IfOk r (λ c. Reserves p (attach_change m plan) c t) →
    IfOk r (λ c. c.records.count + c.blanks ≤ elements_needed m (Attach plan))
attach_few p t m plan r made =
    few-answered p t (attach_change m plan) (elements_needed m (Attach plan)) r made
    (attach-fits m plan)

one-register : (m : StorageState) (reply : Reply) → length (register_records m (end_registers reply)) ≤ 1
one-register m (Obtained address length) = omega arith
one-register m (Returned code) = few_records m.tasks.current (m.tasks.words m.tasks.current) (15, code) []
one-register m (Cell cell) = omega arith
one-register m (Attached task) = omega arith
one-register m (Turn task) = omega arith
one-register m Stored = omega arith

-- with the empty subpools that it parks
pub end-fits : (m : StorageState) (plan : EndPlan) → length (parks_all m plan.top) + (length (end_change m plan).records + (end_change m plan).blanks) ≤ elements_needed m (End plan)
end-fits m plan =
    let ended = ended_below m.tasks.parents plan.top in
    let records = end_records m ended plan.next in
    let registers = register_records (with_turn m plan.next) (end_registers plan.reply) in
    omega (arith, (ends_are_short m ended plan.next).2, length-append records registers, one-register (with_turn m plan.next) plan.reply)

pub end_few : {E : Type 0} (p t : Parts) (m : StorageState) (plan : EndPlan) (r : Result Change E) → IfOk r (λ c. Reserves p (end_change m plan) c t) →
    IfOk r (λ c. c.records.count + c.blanks ≤ elements_needed m (End plan))
end_few p t m plan r made = few-answered p t (end_change m plan) (elements_needed m (End plan)) r made (omega (arith, end-fits m plan))
