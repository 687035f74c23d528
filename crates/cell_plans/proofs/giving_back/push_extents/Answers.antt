use Rattle.std.proofs.Common.{◌+◌, ◌*◌}
use Rattle.std.proofs.lemmas.Result.{on_ok_weaker, on_err_weaker}
use Rattle.free_queue.specs.FreeQueue.{owned}
use Rattle.free_queue.proofs.QueueLemmas.{queues_stand}
use Rattle.storage_swap.specs.Storage.{state_of}
use Rattle.cell_plans.specs.CellPlans.{pool_given_back, extents_of_pool, extents_need}
use Rattle.cell_plans.proofs.NotedLemmas.{owned-live, gone-builds}
use Rattle.cell_plans.proofs.AreaWalks.{all_gone, still_made}
use Rattle.cell_plans.proofs.giving_back.push_extents.Goals as goal

pub returns-clause-builds : goal.returns-clause-builds
returns-clause-builds c =
    let each = c.push_each-count in
    gone-builds c.args.storage.now c.args.builder.now each.new.storage each.new.builder each.new.areas each.ensures.builds c.discard.new.elements c.discard.ensures.owned

pub returns-clause-made : goal.returns-clause-made
returns-clause-made c =
    let each = c.push_each-count in
    let t = each.new.storage in
    let q = each.new.areas in
    let m = (state_of c.args.storage.now).subpools in
    let o = m.cells c.args.pool in
    on_err_weaker each.result
    (still_made c.args.storage.now c.args.builder.now (pool_given_back m o) (4 * extents_of_pool o + 1) t each.new.builder q each.ensures.builds c.discard.new.elements c.discard.ensures.owned
    (owned-live t.elements (owned t.elements q) (queues_stand t.elements q each.ensures.builds.beside.queue).1 c.live_are_counted.ensures) (extents_need (state_of c.args.storage.now) c.args.pool)) each.ensures.made

pub returns-clause-ok : goal.returns-clause-ok
returns-clause-ok c =
    let each = c.push_each-count in
    let t = each.new.storage in
    let q = each.new.areas in
    let m = (state_of c.args.storage.now).subpools in
    let o = m.cells c.args.pool in
    on_ok_weaker each.result
    (all_gone c.args.storage.now c.args.builder.now (pool_given_back m o) (4 * extents_of_pool o + 1) t each.new.builder q each.ensures.builds c.discard.new.elements c.discard.ensures.owned
    (owned-live t.elements (owned t.elements q) (queues_stand t.elements q each.ensures.builds.beside.queue).1 c.live_are_counted.ensures)) each.ensures.ok
