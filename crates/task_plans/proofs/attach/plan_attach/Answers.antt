use Rattle.std.proofs.Common.{◌∙◌, sym}
use Rattle.storage_swap.specs.Storage.{state_of}
use Rattle.storage_changes.specs.Meaning.{model_of}
use Rattle.task_plans.proofs.AttachPlans.{free_is, attach_planned}
use Rattle.task_plans.proofs.NumberLists.{first_private}
use Rattle.task_plans.proofs.attach.plan_attach.Goals as goal

pub some_is_anothers-requires-clause-range : goal.some_is_anothers-requires-clause-range
some_is_anothers-requires-clause-range c =
    first_private c.in_ok-given.given.items c.in_ok-shared.shared.items (sym c.has_bad_number.ensures ∙ c.if-has_bad_number.false)

pub returns-in-Ok : goal.returns-in-Ok
returns-in-Ok c settings names_full stands =
    let p = c.args.storage.now in
    let m = state_of p in
    attach_planned settings names_full m c.args.request c.in-Ok.task c.in_ok-given.given.items c.in_ok-shared.shared.items
    c.in_ok-given.ensures.ok c.in_ok-shared.ensures.ok (sym c.has_bad_number.ensures ∙ c.if-has_bad_number.false)
    (sym c.some_is_anothers.ensures ∙ c.if-some_is_anothers.false) (free_is (model_of m) c.in-Ok.task c.in-Ok.ensures.ok) c.attaching_leads.ensures
    (c.cell_pools_are_named.ensures p.elements p.subpools c.requires.stands.subpools) stands.sound
