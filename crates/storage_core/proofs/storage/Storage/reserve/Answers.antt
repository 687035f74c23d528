use Rattle.std.proofs.Common.{◌+◌, ◌≤◌, IsOk, IfOk, refl, sym, subst, rules}
use Rattle.storage_swap.specs.Growth.{MakesElements}
use Rattle.task_plans.specs.TaskPlans.{end_change}
use Rattle.storage_core.specs.declared.plans.Plan.{Plan}
use Rattle.storage_core.specs.declared.plans.Plan.TheVariants.{End}
use Rattle.storage_core.specs.Meaning.{state_in_place}
use Rattle.storage_core.specs.Planned.{elements_needed, IsSpare}
use Rattle.storage_core.proofs.Made.{IsMadeOf, made_of}
use Rattle.storage_core.proofs.storage.Storage.reserve.Goals as goal

pub returns-in-End-clause-ok : goal.returns-in-End-clause-ok
returns-in-End-clause-ok c =
    let s = c.args.self.now in
    let m = state_in_place s in
    let plan = c.in-End.plan in
    let r = c.reserve_end.result in
    let t = c.reserve_end.new.self.parts in
    let P : Plan → Type 0 = λ x. IsMadeOf s.parts m x t r in
    subst P (sym c.in-End.is) (made_of s.parts t m (End plan) (end_change m plan) tt refl r c.reserve_end.ensures.ok)

pub returns-in-End-clause-few : goal.returns-in-End-clause-few
returns-in-End-clause-few c =
    let m = state_in_place c.args.self.now in
    let P : Plan → Type 0 = λ x. IfOk c.reserve_end.result (λ change. change.records.count + change.blanks ≤ elements_needed m x) in
    subst P (sym c.in-End.is) c.reserve_end.ensures.few

pub returns-in-End-clause-uses : goal.returns-in-End-clause-uses
returns-in-End-clause-uses c =
    let s = c.args.self.now in
    let P : Plan → Type 0 = λ x. IfOk c.reserve_end.result (λ _. s.parts.elements.spare ≤ c.reserve_end.new.self.parts.elements.spare + elements_needed (state_in_place s) x) in
    subst P (sym c.in-End.is) c.reserve_end.ensures.uses

pub returns-in-End-clause-made : goal.returns-in-End-clause-made
returns-in-End-clause-made c =
    let s = c.args.self.now in
    let P : Plan → Type 0 = λ x. MakesElements s.parts.elements c.reserve_end.new.self.parts.elements (elements_needed (state_in_place s) x) in
    subst P (sym c.in-End.is) c.reserve_end.ensures.made

pub returns-in-End-clause-needless : goal.returns-in-End-clause-needless
returns-in-End-clause-needless c =
    let s = c.args.self.now in
    let P : Plan → Type 0 = λ x. IsSpare s.parts (state_in_place s) x → IsOk c.reserve_end.result in
    subst P (sym c.in-End.is) (λ spare. c.reserve_end.ensures.needless spare.elements)

pub returns-in-Attach-clause-needless : goal.returns-in-Attach-clause-needless
returns-in-Attach-clause-needless c = search rules
