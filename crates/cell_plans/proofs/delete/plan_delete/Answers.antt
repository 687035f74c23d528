use Rattle.storage_swap.specs.Storage.{state_of}
use Rattle.cell_plans.proofs.DeletePlans.{found_pool, delete_planned}
use Rattle.cell_plans.proofs.delete.plan_delete.Goals as goal

pub returns : goal.returns
returns c = λ settings names_full valid stands.
    let storage = c.args.storage.now in
    let m = state_of storage in
    let id = c.in_ok-find_seen.field-0 in
    let found = found_pool (m.subpools.cells id) c.in_ok-find_seen.ensures.there in
    delete_planned settings names_full m c.args.name.now c.deleting_leads.ensures c.cell_pools_stay_well_formed.ensures.delete
    (c.cell_pools_are_named.ensures storage.elements storage.subpools c.requires.stands.subpools) id found.0
    (c.in_ok-find_seen.ensures.seen found.0 found.1) valid stands.sound
