use Rattle.run_set.specs.Runs.{contains}
use Rattle.free_queue.specs.FreeQueue.{is_free}
use Rattle.storage_swap.specs.Storage.{state_of}
use Rattle.cell_plans.specs.Areas.{first_areas}
use Rattle.cell_plans.specs.Emptied.{freed}
use Rattle.cell_plans.proofs.FreeEnds.{ends_in_one, ends_in_two, up_to_end}
use Rattle.cell_plans.proofs.GivenAreas.{freed_at}
use Rattle.cell_plans.proofs.emptied.end_of_free.Goals as goal

pub returns-then-doubleword-end : goal.returns-then-doubleword-end
returns-then-doubleword-end c =
    let m = (state_of c.args.storage.now).subpools in
    let given = first_areas (state_of c.args.storage.now) c.args.given in
    let end = up_to_end (λ d. is_free c.args.storage.now.elements c.args.given.areas d) (λ d. contains d given) c.args.doubleword c.end_from-end.result c.requires.noted.same c.end_from-end.ensures in
    ends_in_one (λ d. contains d given) (m.free c.args.subpool) ((freed m c.args.subpool given).free c.args.subpool) (freed_at m c.args.subpool given)
    c.args.doubleword c.end_from-end.result end c.if-doubleword-end.true

pub returns-else-doubleword-end : goal.returns-else-doubleword-end
returns-else-doubleword-end c =
    let m = (state_of c.args.storage.now).subpools in
    let given = first_areas (state_of c.args.storage.now) c.args.given in
    let end = up_to_end (λ d. is_free c.args.storage.now.elements c.args.given.areas d) (λ d. contains d given) c.args.doubleword c.end_from-end.result c.requires.noted.same c.end_from-end.ensures in
    ends_in_two (λ d. contains d given) (m.free c.args.subpool) ((freed m c.args.subpool given).free c.args.subpool) (freed_at m c.args.subpool given)
    c.args.doubleword c.end_from-end.result c.free_end.result end c.if-doubleword-end.false c.free_end.ensures
