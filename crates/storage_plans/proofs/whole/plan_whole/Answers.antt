use Rattle.storage_swap.specs.Storage.{state_of}
use Rattle.storage_plans.proofs.Emptied.{emptying_carried_out}
use Rattle.storage_plans.proofs.whole.plan_whole.Goals as goal

pub returns-clause-planned : goal.returns-clause-planned
returns-clause-planned c settings names_full valid stands =
    let its = c.in_ok-find_owned.ensures in
    let plan = c.empty in
    let storage = c.args.storage.now in
    emptying_carried_out settings names_full (state_of storage) c.args.number c.rows_of_the_others_stay.ensures
    (c.cell_pools_are_named.ensures storage.elements storage.subpools c.requires.subpools) its.none valid stands.sound c.in_ok-find_owned.field-0 its.subpool
    plan.result plan.ensures.emptied plan.ensures.records plan.ensures.blanks plan.ensures.fresh plan.ensures.reply
