use Rattle.std.proofs.Common.{List, [], OnOk, sym, ap, ◌∙◌, subst, OnErr, length}
use Rattle.std.specs.List.{flat_map}
use Rattle.std.proofs.lemmas.List.{append-nil}
use Rattle.storage_changes.specs.declared.record.Record.{Record}
use Rattle.storage_swap.specs.Storage.{state_of}
use Rattle.storage_swap.specs.Builder.{Pushes}
use Rattle.storage_changes.specs.Ending.{is_below_by, ended_records}
use Rattle.task_plans.proofs.Rests.{passes_first}
use Rattle.storage_swap.specs.Growth.{MakesElements}
use Rattle.task_plans.proofs.ended.push_ended_at.Goals as goal

pub returns-then-is_below_by-clause-ok : goal.returns-then-is_below_by-clause-ok
returns-then-is_below_by-clause-ok c =
    let m = state_of c.args.storage.now in
    let task = c.args.task in
    let done = c.push_ended_task in
    let P : List Record → Type 0 = λ rs. OnOk done.result (Pushes c.args.storage.now c.args.builder.now rs done.new.storage done.new.builder) in
    subst P
    (sym (ap (flat_map (ended_records m)) (passes_first (is_below_by m.tasks.parents c.args.tree.now.top c.args.steps) task [] (sym c.is_below_by.ensures ∙ c.if-is_below_by.true)) ∙ append-nil (ended_records m task)))
    done.ensures.ok

pub returns-then-is_below_by-clause-made : goal.returns-then-is_below_by-clause-made
returns-then-is_below_by-clause-made c =
    let m = state_of c.args.storage.now in
    let task = c.args.task in
    let done = c.push_ended_task in
    let P : List Record → Type 0 = λ rs. OnErr done.result (MakesElements c.args.storage.now.elements done.new.storage.elements (length rs)) in
    subst P
    (sym (ap (flat_map (ended_records m)) (passes_first (is_below_by m.tasks.parents c.args.tree.now.top c.args.steps) task [] (sym c.is_below_by.ensures ∙ c.if-is_below_by.true)) ∙ append-nil (ended_records m task)))
    done.ensures.made
